-- Passages of the machine, one after another.
use Rattle.std.proofs.Common.{◌≡◌, List, [], ◌∷◌, arith, Option, Some, None, refl, ◌∙◌, ap}
use Rattle.grammar.specs.declared.language.Event.TheVariants.{Open, Take, Close}
use Rattle.grammar.specs.declared.language.Symbol.TheVariants.{Terminal}
use Rattle.grammar.specs.Grammar.{Grammar}
use Rattle.grammar.specs.Limits.{Meter, taken, first_passing, passing_at, earlier_of, Passing}
use Rattle.grammar.specs.Descent.{Item, opened, with_value, left, behind, whole, Turns, Takes}
use Rattle.descent.specs.Passages.{Ran, Gives}
use Rattle.grammar.proofs.RunLemmas.{same_then, turn_open, take_shift}
use Rattle.grammar.proofs.StepLemmas.{closes}

or_none : (o : Option Passing) → earlier_of o None ≡ o
or_none (Some p) = refl
or_none None = refl

module _ {Token T N P V M : Type 0} (g : Grammar Token T N P V) (predict : N → T → Option P) (meter : Meter T P M) where
  pub ran_here : (fs : List (Item P V)) (m : M) (ts : List Token) → Ran g predict meter fs m ts fs m ts
  ran_here fs m ts past reads = record { later = past; reads = reads; count = refl; passing = refl; same = record { to = λ c all h. h; from = λ c all h. h } }

  pub ran_on : (fs gs hs : List (Item P V)) (m n o : M) (ts us vs : List Token) → Ran g predict meter fs m ts gs n us → Ran g predict meter gs n us hs o vs → Ran g predict meter fs m ts hs o vs
  ran_on fs gs hs m n o ts us vs a b past reads =
      let x = a past reads in
      let y = b x.later x.reads in
      record {
        later = y.later;
        reads = y.reads;
        count = y.count ∙ x.count;
        passing = y.passing ∙ x.passing;
        same = same_then g predict fs gs hs past x.later y.later ts us vs x.same y.same;
      }

  pub ran_turn : (fs gs : List (Item P V)) (m n : M) (t : Token) (ts : List Token) → Turns g predict meter fs m t gs n → Ran g predict meter fs m (t ∷ ts) gs n (t ∷ ts)
  ran_turn fs gs m n t ts a past reads =
      let x = a past reads in
      let e = x.count in
      record { later = x.later; reads = x.reads; count = omega (arith, e); passing = x.passing; same = x.same ts }

  pub ran_take : (fs gs : List (Item P V)) (m n : M) (t : Token) (ts : List Token) → Takes g predict meter fs m t gs n → meter.passed n ≡ None → Ran g predict meter fs m (t ∷ ts) gs n ts
  ran_take fs gs m n t ts a none past reads =
      let x = a past reads in
      let e = x.count in
      record {
        later = Take (g.terminal_of t) ∷ x.later;
        reads = x.reads;
        count = omega (arith, e);
        passing = ap (λ o. earlier_of (first_passing meter x.later) (passing_at (taken x.later) o)) (ap meter.passed x.reads ∙ none) ∙ or_none (first_passing meter x.later) ∙ x.passing;
        same = x.same ts;
      }

  pub ran_close : (f h : Item P V) (fs : List (Item P V)) (m : M) (ts : List Token) → left g f ≡ [] → Ran g predict meter (f ∷ h ∷ fs) m ts (with_value h (whole g f) ∷ fs) (meter.next (Close f.production) m) ts
  ran_close f h fs m ts none_left past reads = record {
    later = Close f.production ∷ past;
    reads = ap (meter.next (Close f.production)) reads;
    count = refl;
    passing = refl;
    same = closes g predict f h fs past ts none_left;
  }

  -- a token is the next symbol
  pub ran_token : (f : Item P V) (fs : List (Item P V)) (m : M) (t : Token) (ts : List Token) → left g f ≡ Terminal (g.terminal_of t) ∷ behind g f → meter.passed (meter.next (Take (g.terminal_of t)) m) ≡ None
      → Ran g predict meter (f ∷ fs) m (t ∷ ts) (with_value f (g.value t) ∷ fs) (meter.next (Take (g.terminal_of t)) m) ts
  ran_token f fs m t ts awaits none = ran_take (f ∷ fs) (with_value f (g.value t) ∷ fs) m (meter.next (Take (g.terminal_of t)) m) t ts
      (take_shift g predict meter f fs (f ∷ fs) (with_value f (g.value t) ∷ fs) m (meter.next (Take (g.terminal_of t)) m) t (g.terminal_of t) awaits refl refl refl refl) none

  -- a nonterminal is given what a production of it makes, whose symbols are filled meanwhile
  pub produced : (i : N) (p : P) (t : Token) (ts us : List Token) (m n : M) (h : Item P V) → predict i (g.terminal_of t) ≡ Some p → h.production ≡ p → left g h ≡ []
      → ((fs : List (Item P V)) → Ran g predict meter (opened p ∷ fs) (meter.next (Open p) m) (t ∷ ts) (h ∷ fs) n us)
      → Gives g predict meter i (t ∷ ts) m (whole g h) us (meter.next (Close h.production) n)
  produced i p t ts us m n h predicted of full fills f fs awaits =
      ran_on (f ∷ fs) (opened p ∷ f ∷ fs) (with_value f (whole g h) ∷ fs) m (meter.next (Open p) m) (meter.next (Close h.production) n) (t ∷ ts) (t ∷ ts) us
      (ran_turn (f ∷ fs) (opened p ∷ f ∷ fs) m (meter.next (Open p) m) t ts (turn_open g predict meter f fs (f ∷ fs) (opened p ∷ f ∷ fs) m (meter.next (Open p) m) t i p awaits predicted refl refl refl))
      (ran_on (opened p ∷ f ∷ fs) (h ∷ f ∷ fs) (with_value f (whole g h) ∷ fs) (meter.next (Open p) m) n (meter.next (Close h.production) n) (t ∷ ts) us us
      (fills (f ∷ fs))
      (ran_close h f fs n us full))
