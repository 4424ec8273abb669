-- What a descent over a whole text says of it.
use Rattle.std.proofs.Common.{◌≡◌, List, [], ◌∷◌, drop, refl, sym, ◌∙◌, ap, subst}
use Rattle.ground.specs.declared.token.Token.{Token}
use Rattle.grammar.specs.declared.language.Symbol.TheVariants.{Terminal, Nonterminal}
use Rattle.grammar.specs.declared.language.Event.TheVariants.{Open, Take, Close}
use Rattle.grammar.specs.Grammar.{Grammar, Parse, result_of, IsProgram}
use Rattle.grammar.specs.Limits.{history_of, Meter, IsAccepted}
use Rattle.grammar.specs.Certificate.{Certificate, IsSound}
use Rattle.grammar.specs.Descent.{Item, opened, left, behind, with_value, whole, Continues}
use Rattle.grammar.proofs.HistoryLemmas.{quiet}
use Rattle.grammar.proofs.RunLemmas.{stands_first, guided_of, parsed}
use Rattle.grammar.proofs.StepLemmas.{finishes, finishes_back}
use Rattle.descent.specs.declared.reader.Reader.{Reader}
use Rattle.descent.specs.Passages.{Passed, Ran}
use Rattle.descent.specs.Reading.{Begun, Reads, Ends}
use Rattle.descent.proofs.PassageLemmas.{ran_on, ran_token}

module _ {T N P V M : Type 0} (g : Grammar Token T N P V) (c : Certificate Token T N P) (meter : Meter T P M) (sound : IsSound g c) where
  -- The machine came from the start production to all its symbols, with no token left.
  accepted : (ts : List Token) (f : Item P V) (n : M) → left g f ≡ []
      → Passed g c.predict meter (opened g.start ∷ []) (Open g.start ∷ []) ts (f ∷ []) n [] → IsAccepted g meter ts (whole g f)
  accepted ts f n full run =
      let first = stands_first g c.predict in
      let behind_all : (parse : Parse g ts) → Continues g c.predict (f ∷ []) run.later [] (result_of g parse) (history_of g parse) =
      λ parse. run.same.to (result_of g parse) (history_of g parse)
      (first.to ts (result_of g parse) (history_of g parse) (guided_of g c meter sound ts parse)) in
      record {
        value = λ v. (
          λ p. finishes g c.predict f run.later (result_of g p.0) (history_of g p.0) full (behind_all p.0) ∙ p.1,
          λ e. subst (λ u. IsProgram g ts u) e
              (parsed g c meter sound ts (whole g f) (Close f.production ∷ run.later)
              (first.from ts (whole g f) (Close f.production ∷ run.later)
              (run.same.from (whole g f) (Close f.production ∷ run.later) (finishes_back g c.predict f run.later full)))),
        );
        within = λ parse. quiet g c.predict meter (f ∷ []) run.later (result_of g parse) (history_of g parse) (behind_all parse) ∙ run.passing;
      }

  -- The start production has two symbols, the second of them the end of the text.
  pub descended : (i : N) (k : T) (ts : List Token) (r s : Reader T M) (v : V) (token : Token) → g.symbols g.start ≡ Nonterminal i ∷ Terminal k ∷ []
      → Begun g ts (meter.next (Open g.start) meter.first) r → Reads g c meter (Nonterminal i) r v s → Ends g meter k s token
      → IsAccepted g meter ts (g.build g.start (g.value token ∷ v ∷ []))
  descended i k ts r s v token of begun reads ends =
      let passage = reads.passage begun.sees in
      let one : Item P V = with_value (opened g.start) v in
      let both : Item P V = with_value one (g.value token) in
      let m = meter.next (Open g.start) meter.first in
      let n = meter.next (Take (g.terminal_of token)) s.meters in
      let first : left g (opened {V = V} g.start) ≡ Nonterminal i ∷ behind g (opened {V = V} g.start) = of ∙ ap (λ xs. Nonterminal i ∷ drop 1 xs) (sym of) in
      let second : left g one ≡ Terminal (g.terminal_of token) ∷ behind g one =
      ap (drop 1) of ∙ (ap (λ j. Terminal j ∷ []) (sym ends.terminal) ∙ ap (λ xs. Terminal (g.terminal_of token) ∷ drop 2 xs) (sym of)) in
      let full : left g both ≡ [] = ap (drop 2) of in
      let units : Ran g c.predict meter (opened g.start ∷ []) m ts (one ∷ []) s.meters (token ∷ []) =
      subst (λ us. Ran g c.predict meter (opened g.start ∷ []) m us (one ∷ []) s.meters (token ∷ [])) begun.rest
      (subst (λ us. Ran g c.predict meter (opened g.start ∷ []) m r.rest.now (one ∷ []) s.meters us) ends.is
      (subst (λ j. Ran g c.predict meter (opened g.start ∷ []) j r.rest.now (one ∷ []) s.meters s.rest.now) begun.meters (passage.ran (opened g.start) [] first))) in
      let end : Ran g c.predict meter (one ∷ []) s.meters (token ∷ []) (both ∷ []) n [] =
      ran_token g c.predict meter one [] s.meters token [] second (ap (λ j. meter.passed (meter.next (Take j) s.meters)) ends.terminal ∙ ends.within) in
      accepted ts both n full (ran_on g c.predict meter (opened g.start ∷ []) (one ∷ []) (both ∷ []) m s.meters n ts (token ∷ []) [] units end (Open g.start ∷ []) refl)
