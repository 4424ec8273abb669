-- What the test of a call's agreement says.
use Rattle.std.proofs.Common.{◌≡◌, ◌∙◌, ℕ, true, List, Option, None, Some, option_and_then, refl, sym, ap}
use Rattle.std.specs.List.{slice_get}
use Rattle.rule_table.specs.Words.{is_some_and}
use Rattle.f66_tree.specs.Syntax.{Routine}
use Rattle.f66_program.specs.Mentions.{context_of}
use Rattle.f66_program.specs.Calls.{clashes, unit_named}
use Rattle.f66_program.specs.Linking.{Program, LeadsTo}
use Rattle.linker.specs.CallRules.{is_clashing, led_to}
use Rattle.linker.specs.Sites.{Site}
use Rattle.linker.proofs.CallLemmas.{some_passes}

pub clashing_at : (rs : List Routine) (s : Site) (o b : Option Routine) → slice_get rs s.unit ≡ o → led_to rs s ≡ b → is_clashing rs s ≡ is_some_and (λ r. is_some_and (clashes (context_of r) s.call) b) o
clashing_at rs s o b e f =
    ap (is_some_and (λ (r : Routine). is_some_and (clashes (context_of r) s.call) (led_to rs s))) e ∙ ap (λ c. is_some_and (λ (r : Routine). is_some_and (clashes (context_of r) s.call) c) o) f

led_number : (rs : List Routine) (o : Option ℕ) (b : Routine) → option_and_then (slice_get rs) o ≡ Some b → (v : ℕ) × (o ≡ Some v) × (slice_get rs v ≡ Some b)
led_number rs None b e = absurd (cc)
led_number rs (Some v) b e = (v, refl, e)

pub clash_sound : (p : Program) (s : Site) (r : Routine) → slice_get p.units s.unit ≡ Some r → is_clashing p.units s ≡ true → LeadsTo p s.call (λ v b. clashes (context_of r) s.call b ≡ true)
clash_sound p s r here e =
    let b = some_passes (clashes (context_of r) s.call) (led_to p.units s) (sym (clashing_at p.units s (Some r) (led_to p.units s) here refl) ∙ e) in
    let v = led_number p.units (unit_named s.call.name p.units) b.0 b.1 in
    record { number = v.0; unit = b.0; to = v.1; here = v.2; holds = b.2 }

pub clash_whole : (p : Program) (s : Site) (r : Routine) → slice_get p.units s.unit ≡ Some r → LeadsTo p s.call (λ v b. clashes (context_of r) s.call b ≡ true) → is_clashing p.units s ≡ true
clash_whole p s r here l = clashing_at p.units s (Some r) (Some l.unit) here (ap (option_and_then (slice_get p.units)) l.to ∙ l.here) ∙ l.holds
