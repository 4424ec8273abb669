-- What a fetch gave is what is known of the library.
use Rattle.std.proofs.Common.{◌≡◌, ℕ, List, [], ◌∷◌, Option, Some, None, Err, refl, sym, subst}
use Rattle.std.specs.Prelude.{IfSome}
use Rattle.ground.specs.declared.fault.Refusal.{Refusal}
use Rattle.ground.specs.declared.fault.Refusal.TheVariants.{Fault as AFault, Memory}
use Rattle.macro_define.specs.declared.refusal.TextRefusal.{TextRefusal}
use Rattle.macro_define.specs.declared.refusal.TextRefusal.TheVariants as refusals
use Rattle.macro_define.specs.Answers.{Known, Holds, InTurn, IsOf, answer}
use Rattle.deck_file.specs.Loaded.{Loaded}
use Rattle.deck_file.specs.Answers.{Finds, IsAnswered, IsNamed}

abbrev Files : Type 0
Files = Option (List ℕ → Option (List ℕ))

-- what is known where this was fetched
pub record Fetched (files : Files) (name : List ℕ) (got : Option (List ℕ)) : Type 0 where
  pub known : Known
  pub of : IsOf files known
  pub gave : answer known name ≡ got

pub fetched : (files : Files) (name : List ℕ) (got : Option (List ℕ)) → IfSome files (λ held. got ≡ held name) → Fetched files name got
fetched (Some held) name got e = record { known = Holds held; of = refl; gave = sym e }
fetched None name got e = record { known = InTurn (got ∷ []); of = (got ∷ [], refl); gave = refl }

-- something is known whatever was fetched
pub some_known : (files : Files) → (known : Known) × IsOf files known
some_known (Some held) = (Holds held, refl)
some_known None = (InTurn [], ([], refl))

pub named_answer : (name : List ℕ) (P : Loaded → Type 0) (refusal : Refusal) (answered : TextRefusal) → Finds P (Err refusal) → IsNamed name refusal answered → IsAnswered name P (Err answered)
named_answer name P (AFault f) (refusals.Fault g file) found is = (subst (λ x. P (Err x)) (sym is.0) found, is.1)
named_answer name P (AFault f) refusals.Library found is = absurd is
named_answer name P (AFault f) refusals.Memory found is = tt
named_answer name P Memory (refusals.Fault g file) found is = absurd is
named_answer name P Memory refusals.Library found is = absurd is
named_answer name P Memory refusals.Memory found is = tt
