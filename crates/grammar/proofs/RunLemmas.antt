-- From the stack to the text: what the items say of the tokens so far, and what that makes of the parser's answers.
use Rattle.std.proofs.Common.{◌≡◌, ◌≤◌, ℕ, suc, List, [], ◌∷◌, ◌++◌, length, length-append, arith, Option, Some, None, refl, sym, ◌∙◌, ap, subst, append_assoc, append-nil}
use Rattle.grammar.specs.declared.language.Event.{Event}
use Rattle.grammar.specs.declared.language.Event.TheVariants.{Open, Take, Close}
use Rattle.grammar.specs.declared.language.Symbol.{Symbol}
use Rattle.grammar.specs.declared.language.Symbol.TheVariants.{Terminal, Nonterminal}
use Rattle.grammar.specs.Grammar.{Grammar, Parse, result_of, Begins, EndsWith, IsProgram}
use Rattle.grammar.specs.Limits.{history_of, Meter, Passing, taken, passing_at, earlier_of, reading, first_passing, IsWithin, Passes, IsAccepted}
use Rattle.grammar.specs.Lookahead.{GoesAll, IsGuided}
use Rattle.grammar.specs.Certificate.{Certificate, IsSound}
use Rattle.grammar.specs.Descent.{Item, opened, with_value, left, behind, whole, Linked, Continues, Same, Stands, Turns, Takes, Refuses}
use Rattle.grammar.specs.Stack.{Finishes}
use Rattle.grammar.proofs.LookaheadLemmas.{sets_of, ll1}
use Rattle.grammar.proofs.DerivationLemmas.{parse_of, guided_parse}
use Rattle.grammar.proofs.ClosingLemmas.{closable}
use Rattle.grammar.proofs.HistoryLemmas.{extends, kept, late, quiet}
use Rattle.grammar.proofs.EndLemmas.{ended}
use Rattle.grammar.proofs.StepLemmas.{closes, opens, shifts, finishes, finishes_back, unfinished}

module _ {Token T N P V : Type 0} (g : Grammar Token T N P V) (predict : N → T → Option P) where
  pub same_then : (fs gs hs : List (Item P V)) → (past middle later : List (Event T P)) → (ts us vs : List Token) →
      Same g predict fs past gs middle ts us → Same g predict gs middle hs later us vs → Same g predict fs past hs later ts vs
  same_then fs gs hs past middle later ts us vs a b = record {
    to = λ c all h. b.to c all (a.to c all h);
    from = λ c all h. a.from c all (b.from c all h);
  }

  -- The same of lists that are equal.
  pub same_at : (fs fs' gs gs' : List (Item P V)) → (past later : List (Event T P)) → (ts us : List Token) → fs ≡ fs' → gs ≡ gs' →
      Same g predict fs' past gs' later ts us → Same g predict fs past gs later ts us
  same_at fs fs' gs gs' past later ts us e d s = record {
    to = λ c all h. subst (λ hs. Continues g predict hs later us c all) (sym d) (s.to c all (subst (λ hs. Continues g predict hs past ts c all) e h));
    from = λ c all h. subst (λ hs. Continues g predict hs past ts c all) (sym e) (s.from c all (subst (λ hs. Continues g predict hs later us c all) d h));
  }

  -- At the end of the text the items are closed from the innermost.
  abbrev pub ComesTo : List (Item P V) → List (Item P V) → Type 0
  ComesTo fs gs = (past : List (Event T P)) → (later : List (Event T P)) × Same g predict fs past gs later [] []

  pub comes_to_itself : (fs : List (Item P V)) → ComesTo fs fs
  comes_to_itself fs past = (past, record { to = λ c all h. h; from = λ c all h. h })

  pub comes_closer : (fs gs hs : List (Item P V)) → (f i : Item P V) → (rest : List (Item P V)) → ComesTo fs gs → gs ≡ f ∷ i ∷ rest → hs ≡ with_value i (whole g f) ∷ rest →
      left g f ≡ [] → ComesTo fs hs
  comes_closer fs gs hs f i rest come old new none_left past =
      let x = come past in (
        Close f.production ∷ x.0,
        same_then fs gs hs past x.0 (Close f.production ∷ x.0) [] [] [] x.1
            (same_at gs (f ∷ i ∷ rest) hs (with_value i (whole g f) ∷ rest) x.0 (Close f.production ∷ x.0) [] [] old new (closes g predict f i rest x.0 [] none_left)),
      )

  pub finishes_whole : {W : Type 0} → (view : W → V) → (w : W) → (fs gs : List (Item P V)) → (f : Item P V) → ComesTo fs gs → gs ≡ f ∷ [] → left g f ≡ [] → view w ≡ whole g f →
      Finishes g predict view fs (Some w)
  finishes_whole view w fs gs f come alone none_left value past =
      let x = come past in (
        λ c all h. value ∙ finishes g predict f x.0 c all none_left (subst (λ hs. Continues g predict hs x.0 [] c all) alone (x.1.to c all h)),
        (
          Close f.production ∷ x.0,
          x.1.from (view w) (Close f.production ∷ x.0)
              (subst (λ hs. Continues g predict hs x.0 [] (view w) (Close f.production ∷ x.0)) (sym alone)
              (subst (λ v. Continues g predict (f ∷ []) x.0 [] v (Close f.production ∷ x.0)) (sym value) (finishes_back g predict f x.0 none_left))),
        ),
      )

  pub finishes_stuck : {W : Type 0} → (view : W → V) → (fs gs : List (Item P V)) → (f : Item P V) → (rest : List (Item P V)) → (s : Symbol T N) → ComesTo fs gs → gs ≡ f ∷ rest →
      left g f ≡ s ∷ behind g f → Finishes g predict view fs None
  finishes_stuck view fs gs f rest s come old awaits past c all h =
      let x = come past in
      unfinished g predict f rest x.0 s (behind g f) c all awaits (subst (λ hs. Continues g predict hs x.0 [] c all) old (x.1.to c all h))

  pub stands_first : Stands g predict [] (opened g.start ∷ []) (Open g.start ∷ [])
  stands_first = record {
    to = λ more c all h. (h.0, [], h.1, (h.2, h.3, refl));
    from = λ more c all h. (h.0, subst (λ r. GoesAll g predict h.0 (g.symbols g.start) more r) h.3.2 h.2, h.3.0, h.3.1);
    linked = refl;
  }

  stands_next : (ts : List Token) → (fs : List (Item P V)) → (past : List (Event T P)) → (t : Token) → (gs : List (Item P V)) → (later : List (Event T P)) →
      Stands g predict ts fs past → ((more : List Token) → Same g predict fs past gs later (t ∷ more) more) → (Linked g fs → Linked g gs) →
      Stands g predict (ts ++ t ∷ []) gs later
  stands_next ts fs past t gs later s same linked = record {
    to = λ more c all h. (same more).to c all (s.to (t ∷ more) c all (subst (λ us. IsGuided g predict us c all) (append_assoc ts (t ∷ []) more) h));
    from = λ more c all h. subst (λ us. IsGuided g predict us c all) (sym (append_assoc ts (t ∷ []) more)) (s.from (t ∷ more) c all ((same more).from c all h));
    linked = linked s.linked;
  }

module _ {Token T N P V M : Type 0} (g : Grammar Token T N P V) (predict : N → T → Option P) (meter : Meter T P M) where
  pub turns_none : (fs : List (Item P V)) → (m : M) → (t : Token) → Turns g predict meter fs m t fs m
  turns_none fs m t past reads = record {
    later = past;
    reads = reads;
    count = refl;
    passing = refl;
    same = λ more. record { to = λ c all h. h; from = λ c all h. h };
  }

  pub turns_then : (fs gs hs : List (Item P V)) → (m n o : M) → (t : Token) → Turns g predict meter fs m t gs n → Turns g predict meter gs n t hs o →
      Turns g predict meter fs m t hs o
  turns_then fs gs hs m n o t a b past reads =
      let x = a past reads in
      let y = b x.later x.reads in
      record {
        later = y.later;
        reads = y.reads;
        count = y.count ∙ x.count;
        passing = y.passing ∙ x.passing;
        same = λ more. same_then g predict fs gs hs past x.later y.later (t ∷ more) (t ∷ more) (t ∷ more) (x.same more) (y.same more);
      }

  pub turns_take : (fs gs hs : List (Item P V)) → (m n o : M) → (t : Token) → Turns g predict meter fs m t gs n → Takes g predict meter gs n t hs o →
      Takes g predict meter fs m t hs o
  turns_take fs gs hs m n o t a b past reads =
      let x = a past reads in
      let y = b x.later x.reads in
      record {
        later = y.later;
        reads = y.reads;
        count = y.count ∙ x.count;
        passing = y.passing ∙ x.passing;
        same = λ more. same_then g predict fs gs hs past x.later (Take (g.terminal_of t) ∷ y.later) (t ∷ more) (t ∷ more) more (x.same more) (y.same more);
      }

  pub turns_refuse : (fs gs : List (Item P V)) → (m n : M) → (t : Token) → Turns g predict meter fs m t gs n → Refuses g predict meter gs n t →
      Refuses g predict meter fs m t
  turns_refuse fs gs m n t a b past reads more c all h =
      let x = a past reads in
      b x.later x.reads more c all ((x.same more).to c all h)

  -- The steps of the machine.
  pub turn_close : (f h : Item P V) → (fs hs gs : List (Item P V)) → (m n : M) → (t : Token) → left g f ≡ [] → hs ≡ f ∷ h ∷ fs → gs ≡ with_value h (whole g f) ∷ fs →
      n ≡ meter.next (Close f.production) m → Turns g predict meter hs m t gs n
  turn_close f h fs hs gs m n t none_left old new next past reads = record {
    later = Close f.production ∷ past;
    reads = ap (meter.next (Close f.production)) reads ∙ sym next;
    count = refl;
    passing = refl;
    same = λ more. same_at g predict hs (f ∷ h ∷ fs) gs (with_value h (whole g f) ∷ fs) past (Close f.production ∷ past) (t ∷ more) (t ∷ more) old new
        (closes g predict f h fs past (t ∷ more) none_left);
  }

  pub turn_open : (f : Item P V) → (fs hs gs : List (Item P V)) → (m n : M) → (t : Token) → (i : N) → (p : P) → left g f ≡ Nonterminal i ∷ behind g f →
      predict i (g.terminal_of t) ≡ Some p → hs ≡ f ∷ fs → gs ≡ opened p ∷ f ∷ fs → n ≡ meter.next (Open p) m → Turns g predict meter hs m t gs n
  turn_open f fs hs gs m n t i p awaits predicted old new next past reads = record {
    later = Open p ∷ past;
    reads = ap (meter.next (Open p)) reads ∙ sym next;
    count = refl;
    passing = refl;
    same = λ more. same_at g predict hs (f ∷ fs) gs (opened p ∷ f ∷ fs) past (Open p ∷ past) (t ∷ more) (t ∷ more) old new
        (opens g predict f fs past i (behind g f) t p awaits predicted more);
  }

  pub take_shift : (f : Item P V) → (fs hs gs : List (Item P V)) → (m n : M) → (t : Token) → (k : T) → left g f ≡ Terminal k ∷ behind g f →
      g.terminal_of t ≡ k → hs ≡ f ∷ fs → gs ≡ with_value f (g.value t) ∷ fs → n ≡ meter.next (Take k) m → Takes g predict meter hs m t gs n
  take_shift f fs hs gs m n t k awaits same old new next past reads = record {
    later = past;
    reads = ap (λ j. meter.next (Take j) (reading meter past)) same ∙ (ap (meter.next (Take k)) reads ∙ sym next);
    count = refl;
    passing = refl;
    same = λ more. same_at g predict hs (f ∷ fs) gs (with_value f (g.value t) ∷ fs) past (Take (g.terminal_of t) ∷ past) (t ∷ more) more old new
        (shifts g predict f fs past k (behind g f) t awaits same more);
  }

  pub refuse : (hs fs : List (Item P V)) → (m : M) → (t : Token) → hs ≡ fs →
      ((past : List (Event T P)) → (more : List Token) → (c : V) → (all : List (Event T P)) → Continues g predict fs past (t ∷ more) c all → ⊥) →
      Refuses g predict meter hs m t
  refuse hs fs m t old never past reads more c all h = never past more c all (subst (λ us. Continues g predict us past (t ∷ more) c all) old h)

-- What the stack and the meters say after some tokens that pass no limit.
pub record Reached {Token T N P V M : Type 0} (g : Grammar Token T N P V) (predict : N → T → Option P) (meter : Meter T P M) (ts : List Token) (fs : List (Item P V)) (m : M) : Type 0 where
  pub past : List (Event T P)
  pub stands : Stands g predict ts fs past
  pub reads : reading meter past ≡ m
  pub count : taken past ≡ length ts
  pub none_passed : first_passing meter past ≡ None

module _ {Token T N P V M : Type 0} (g : Grammar Token T N P V) (c : Certificate Token T N P) (meter : Meter T P M) (sound : IsSound g c) where
  pub guided_of : (ts : List Token) → (parse : Parse g ts) → IsGuided g c.predict ts (result_of g parse) (history_of g parse)
  guided_of ts parse = guided_parse g c.predict (sets_of c) (ll1 g c sound) ts parse

  pub parsed : (ts : List Token) → (v : V) → (all : List (Event T P)) → IsGuided g c.predict ts v all → IsProgram g ts v
  parsed ts v all h = let p = parse_of g c.predict (ll1 g c sound).offered ts v all h in (p.0, p.1)

  begins : (ts : List Token) → (fs : List (Item P V)) → (past : List (Event T P)) → Stands g c.predict ts fs past → Begins g ts
  begins ts fs past s =
      let end = closable g c sound fs past s.linked in
      (end.more, (parsed (ts ++ end.more) end.value end.all (s.from end.more end.value end.all end.is)).0)

  none_begins : (ts : List Token) → (fs : List (Item P V)) → (past : List (Event T P)) → (t : Token) → Stands g c.predict ts fs past →
      ((more : List Token) → (v : V) → (all : List (Event T P)) → Continues g c.predict fs past (t ∷ more) v all → ⊥) → Begins g (ts ++ t ∷ []) → ⊥
  none_begins ts fs past t s refuses b =
      let parse = b.1 in
      refuses b.0 (result_of g parse) (history_of g parse) (s.to (t ∷ b.0) (result_of g parse) (history_of g parse)
      (subst (λ us. IsGuided g c.predict us (result_of g parse) (history_of g parse)) (append_assoc ts (t ∷ []) b.0) (guided_of ((ts ++ t ∷ []) ++ b.0) parse)))

  pub reached_first : (m : M) → m ≡ meter.next (Open g.start) meter.first → Reached g c.predict meter [] (opened g.start ∷ []) m
  reached_first m e = record {
    past = Open g.start ∷ [];
    stands = stands_first g c.predict;
    reads = sym e;
    count = refl;
    none_passed = refl;
  }

  passing_of : (first : Option Passing) → (i : ℕ) → (o : Option ℕ) → first ≡ None → (later : Option Passing) → passing_at i o ≡ later → earlier_of first (passing_at i o) ≡ later
  passing_of None i o e later h = h
  passing_of (Some a) i o e later h = absurd (let f : Some a ≡ None = e in cc)

  taken_next : (ts : List Token) → (t : Token) → (i : ℕ) → i ≡ length ts → suc i ≡ length (ts ++ t ∷ [])
  taken_next ts t i e = omega (arith, length-append ts (t ∷ []))

  pub reached_next : (ts : List Token) → (fs : List (Item P V)) → (m : M) → (t : Token) → (gs : List (Item P V)) → (n : M) →
      Reached g c.predict meter ts fs m → Takes g c.predict meter fs m t gs n → (Linked g fs → Linked g gs) → meter.passed n ≡ None →
      Reached g c.predict meter (ts ++ t ∷ []) gs n
  reached_next ts fs m t gs n r takes linked passed =
      let took = takes r.past r.reads in
      record {
        past = Take (g.terminal_of t) ∷ took.later;
        stands = stands_next g c.predict ts fs r.past t gs (Take (g.terminal_of t) ∷ took.later) r.stands took.same linked;
        reads = took.reads;
        count = taken_next ts t (taken took.later) (took.count ∙ r.count);
        none_passed = passing_of (first_passing meter took.later) (taken took.later) (meter.passed (reading meter (Take (g.terminal_of t) ∷ took.later)))
            (took.passing ∙ r.none_passed) None (ap (passing_at (taken took.later)) (ap meter.passed took.reads ∙ passed));
      }

  -- The token that is refused is the first fault.
  pub within : (ts : List Token) → (fs : List (Item P V)) → (m : M) → Reached g c.predict meter ts fs m → IsWithin g meter ts (length ts)
  within ts fs m r more parse at e =
      let grown = extends g c.predict fs r.past more (result_of g parse) (history_of g parse)
      (r.stands.to more (result_of g parse) (history_of g parse) (guided_of (ts ++ more) parse)) in
      subst (λ i. i ≤ at.token) r.count
      (late meter grown.newer r.past at r.none_passed (ap (first_passing meter) (sym grown.is) ∙ e))

  pub reached_begins : (ts : List Token) → (fs : List (Item P V)) → (m : M) → Reached g c.predict meter ts fs m → Begins g ts
  reached_begins ts fs m r = begins ts fs r.past r.stands

  pub refused : (ts : List Token) → (fs : List (Item P V)) → (m : M) → (t : Token) → Reached g c.predict meter ts fs m → Refuses g c.predict meter fs m t → Begins g (ts ++ t ∷ []) → ⊥
  refused ts fs m t r refuses = none_begins ts fs r.past t r.stands (refuses r.past r.reads)

  -- The token that passes a limit is the first fault.
  pub taken_begins : (ts : List Token) → (fs : List (Item P V)) → (m : M) → (t : Token) → (gs : List (Item P V)) → (n : M) →
      Reached g c.predict meter ts fs m → Takes g c.predict meter fs m t gs n → (Linked g fs → Linked g gs) → Begins g (ts ++ t ∷ [])
  taken_begins ts fs m t gs n r takes linked =
      let took = takes r.past r.reads in
      begins (ts ++ t ∷ []) gs (Take (g.terminal_of t) ∷ took.later)
      (stands_next g c.predict ts fs r.past t gs (Take (g.terminal_of t) ∷ took.later) r.stands took.same linked)

  pub passes : (ts : List Token) → (fs : List (Item P V)) → (m : M) → (t : Token) → (gs : List (Item P V)) → (n : M) → (k : ℕ) →
      Reached g c.predict meter ts fs m → Takes g c.predict meter fs m t gs n → (Linked g fs → Linked g gs) → meter.passed n ≡ Some k →
      Passes g meter (ts ++ t ∷ []) (record { token = length ts; limit = k })
  passes ts fs m t gs n k r takes linked passed more parse =
      let took = takes r.past r.reads in
      let later = Take (g.terminal_of t) ∷ took.later in
      let stands = stands_next g c.predict ts fs r.past t gs later r.stands took.same linked in
      let grown = extends g c.predict gs later more (result_of g parse) (history_of g parse)
      (stands.to more (result_of g parse) (history_of g parse) (guided_of ((ts ++ t ∷ []) ++ more) parse)) in
      let here : passing_at (taken took.later) (meter.passed (reading meter later)) ≡ Some (record { token = length ts; limit = k }) =
      ap (passing_at (taken took.later)) (ap meter.passed took.reads ∙ passed) ∙ ap (λ i. Some (record { token = i; limit = k })) (took.count ∙ r.count) in
      ap (first_passing meter) grown.is
      ∙ kept meter grown.newer later (record { token = length ts; limit = k })
      (passing_of (first_passing meter took.later) (taken took.later) (meter.passed (reading meter later)) (took.passing ∙ r.none_passed)
      (Some (record { token = length ts; limit = k })) here)

  -- at the end of the text
  to_end : (ts : List Token) → (fs : List (Item P V)) → (m : M) → (r : Reached g c.predict meter ts fs m) → (parse : Parse g ts) →
      Continues g c.predict fs r.past [] (result_of g parse) (history_of g parse)
  to_end ts fs m r parse =
      r.stands.to [] (result_of g parse) (history_of g parse)
      (subst (λ us. IsGuided g c.predict us (result_of g parse) (history_of g parse)) (sym (append-nil ts)) (guided_of ts parse))

  pub accepted : {W : Type 0} → (view : W → V) → (ts : List Token) → (fs : List (Item P V)) → (m : M) → Reached g c.predict meter ts fs m → (w : W) →
      Finishes g c.predict view fs (Some w) → IsAccepted g meter ts (view w)
  accepted view ts fs m r w h =
      let end = h r.past in
      record {
        value = λ v. (
          λ p. end.0 (result_of g p.0) (history_of g p.0) (to_end ts fs m r p.0) ∙ p.1,
          λ e. subst (λ u. IsProgram g ts u) e
              (parsed ts (view w) end.1.0 (subst (λ us. IsGuided g c.predict us (view w) end.1.0) (append-nil ts) (r.stands.from [] (view w) end.1.0 end.1.1))),
        );
        within = λ parse. quiet g c.predict meter fs r.past (result_of g parse) (history_of g parse) (to_end ts fs m r parse) ∙ r.none_passed;
      }

  pub never_unfinished : {W : Type 0} → (view : W → V) → (ts : List Token) → (fs : List (Item P V)) → (m : M) → Reached g c.predict meter ts fs m → EndsWith g c.end ts →
      Finishes g c.predict view fs None → ⊥
  never_unfinished view ts fs m r e h =
      let parse = ended g c sound ts e (reached_begins ts fs m r) in
      h r.past (result_of g parse) (history_of g parse) (to_end ts fs m r parse)
