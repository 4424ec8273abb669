-- Units of plain statements: type statements, then what is executed with its FORMATs, and a STOP or RETURN at the end.
use Rattle.std.specs.Prelude.{◌≡◌, false, List, [], ◌∷◌, ◌++◌, None, ⊤}
use Rattle.std.specs.List.{All, flat_map}
use Rattle.ground.specs.declared.value.Kind.{Kind}
use Rattle.rule_table.specs.Words.{repeats}
use Rattle.f66_tree.specs.Syntax.{Text, Act, Stop, Return, Line, Routine}
use Rattle.f66_check.specs.CheckRules.{context_of}
use Rattle.plain_units.specs.Plain.{IsPlain}
use Rattle.plain_units.specs.Known.{AreKnown, IsPlainHeader, IsHead, typed_names}
use Rattle.plain_units.specs.Labels.{HasLabels}

abbrev pub IsLast : Act → Type 0
IsLast (Stop n) = n ≡ None
IsLast Return = ⊤
IsLast a = ⊥

pub record IsPlainUnit (V F : Text → Kind → Type 0) (S : Text → Type 0) (u : Routine) : Type 0 where
  pub heads : List Line
  pub body : List Line
  pub last : Line
  pub lines : u.lines ≡ heads ++ (body ++ last ∷ [])
  pub header : IsPlainHeader V F S u.header
  pub typing : All (λ s. IsHead V F S u.header s) heads
  pub once : repeats (flat_map typed_names heads) ≡ false
  pub plain : All (λ s. IsPlain V F S s.act) body
  pub unlabelled : last.label ≡ None
  pub ends : IsLast last.act
  pub known : AreKnown V F S (context_of u)
  pub labels : HasLabels u.lines
