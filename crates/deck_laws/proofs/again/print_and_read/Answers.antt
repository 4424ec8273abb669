-- What was written is what is read, and that is these units again.
use Rattle.std.proofs.Common.{◌≡◌, ℕ, List, ◌++◌, map, Result, Ok, Err, IfOk, sym, ap, subst, ◌∙◌}
use Rattle.f66_tree.specs.Views.{routine_of}
use Rattle.deck.specs.Decks.{deck_of}
use Rattle.deck_reader.specs.Answers.{deck_units, IsDeckRefusal}
use Rattle.deck_reader.proofs.UnitLemmas.{of_refusal}
use Rattle.deck_laws.proofs.DecksAgain.{sound_read, sound_accepted}
use Rattle.deck_laws.proofs.again.print_and_read.Goals as goal

if_ok : {X E : Type 0} (r : Result X E) (P Q : X → Type 0) → ((x : X) → P x → Q x) → IfOk r P → IfOk r Q
if_ok (Ok x) P Q f p = f x p
if_ok (Err e) P Q f p = tt

pub returns-clause-same : goal.returns-clause-same
returns-clause-same c =
    let written : c.deref.result.now ≡ deck_of (map routine_of c.args.units.now) = c.deref.ensures.value ∙ c.in_ok-write_deck.ensures.written ∙ ap (λ (front : List ℕ). front ++ deck_of (map routine_of c.args.units.now)) c.new-deck.ensures.items in
    if_ok c.read_deck.result _ _ (λ read is. sound_read (map routine_of c.args.units.now) (map routine_of read.items) c.requires.sound (sym (ap deck_units written) ∙ is)) c.read_deck.ensures.units

pub returns-clause-memory : goal.returns-clause-memory
returns-clause-memory c =
    let written : c.deref.result.now ≡ deck_of (map routine_of c.args.units.now) = c.deref.ensures.value ∙ c.in_ok-write_deck.ensures.written ∙ ap (λ (front : List ℕ). front ++ deck_of (map routine_of c.args.units.now)) c.new-deck.ensures.items in
    of_refusal c.read_deck.result _ _ (λ r is. sound_accepted (map routine_of c.args.units.now) r c.requires.sound (subst (λ (bytes : List ℕ). IsDeckRefusal (deck_units bytes) r) written is)) c.read_deck.ensures.refused
