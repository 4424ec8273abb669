-- Two namings that agree on what a unit has give the same unit.
use Rattle.std.proofs.Common.{◌≡◌, ℕ, ap, ◌∙◌}
use Rattle.f66_tree.specs.Syntax.{Text}
use Rattle.efl_tree.specs.Syntax.{EflProcedure, EflProgram}
use Rattle.efl_emit.specs.Names.{temp_of}
use Rattle.efl_lowered.specs.Naming.{Naming}
use Rattle.efl_lowered.specs.Lowering.{unit_of}
use Rattle.efl_naming.specs.Choice.{home_name, callee_name, label_number, made_label, naming_of}
use Rattle.efl_lowered.specs.Needs.{all_need}
use Rattle.efl_typed.specs.Typing.{bodies_of}

-- the naming of one unit
abbrev pub by_parts : (ℕ → Text) → (ℕ → Text) → (Text → ℕ) → (ℕ → ℕ) → ℕ → Naming
by_parts home callee label made room = record { home = home; callee = callee; label = λ n. label; made = λ n. made; temp = temp_of; room = λ n. room }

pub same_unit : (p : EflProgram) (n : ℕ) (u : EflProcedure) (home callee : ℕ → Text) (label : Text → ℕ) (made : ℕ → ℕ) →
    ((v : ℕ) → home v ≡ home_name p v) → ((m : ℕ) → callee m ≡ callee_name p m) → ((l : Text) → label l ≡ label_number p n l) → ((i : ℕ) → made i ≡ made_label p n i) →
    unit_of (by_parts home callee label made (all_need (bodies_of p n) 0)) p n u ≡ unit_of (naming_of p) p n u
same_unit p n u home callee label made homes callees labels mades =
    let room = all_need (bodies_of p n) 0 in
    let homes_same : home ≡ home_name p = λ i v. homes v i in
    let callees_same : callee ≡ callee_name p = λ i m. callees m i in
    let labels_same : label ≡ label_number p n = λ i l. labels l i in
    let mades_same : made ≡ made_label p n = λ i k. mades k i in
    ap (λ h. unit_of (by_parts h callee label made room) p n u) homes_same ∙ ap (λ c. unit_of (by_parts (home_name p) c label made room) p n u) callees_same
    ∙ ap (λ l. unit_of (by_parts (home_name p) (callee_name p) l made room) p n u) labels_same ∙ ap (λ m. unit_of (by_parts (home_name p) (callee_name p) (label_number p n) m room) p n u) mades_same
