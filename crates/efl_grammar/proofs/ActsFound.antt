-- The table derives each act and each part of a statement of the published grammar.
use Rattle.std.proofs.Common.{◌≡◌, ◌∷◌, Option, None, Some, refl, ap}
use Rattle.ground.specs.declared.place.Place.{Place}
use Rattle.ground.specs.declared.token.TokenKind.TheVariants as kinds
use Rattle.efl_tree.specs.Syntax.{Text, EflExpr, EflPlace, Assign}
use Rattle.efl_tree.specs.declared.expression.EflOperator.{EflOperator}
use Rattle.efl_parse_table.specs.declared.table.Terminal.TheVariants as t
use Rattle.efl_parse_table.specs.declared.table.Nonterminal.TheVariants as n
use Rattle.efl_parse_table.specs.declared.table.Production.TheVariants as p
use Rattle.efl_parse_table.specs.Words.{reserved, terminal_in}
use Rattle.efl_parse_values.specs.Kinds as part
use Rattle.efl_parse_values.specs.Values.{Val, nothing}
use Rattle.efl_parse_values.specs.Values as val
use Rattle.efl_parse_values.specs.Parts.{bare, expr_part}
use Rattle.efl_parse_expressions.specs.Phrases.{completed}
use Rattle.rat_grammar.specs.Tokens.{Perhaps, Tokens, token, one, capitals, Lines, place_at}
use Rattle.rat_grammar.specs.Laws.{IsSome}
use Rattle.efl_grammar.specs.Tokens.{name}
use Rattle.efl_grammar.specs.Expressions as e
use Rattle.efl_grammar.specs.Statements as s
use Rattle.rat_grammar.proofs.Derivations.{is_some}
use Rattle.efl_grammar.proofs.Steps.{FoundPart, built, make, found_token, found_empty}
use Rattle.efl_grammar.proofs.ExpressionsFound.{none, some, FoundPlace, named, found_name, place_part, found_place, found_expr, found_exprs, arguments, storing}

-- an act, which begins with a name or a step
pub data FoundAct : Tokens → Tokens → EflExpr → Type 0 where
  begun : {a b : Tokens} {w : Text} {q : Place} {r : part.Rest} {f : EflExpr} → terminal_in reserved w ≡ None → FoundPart n.DeedRest a b (val.rest r) → completed (capitals w) r ≡ f →
      FoundAct (token (kinds.Word w) q ∷ a) b f
  step : {a b : Tokens} {f : EflExpr} → FoundPart n.StepDeed a b (val.located (place_at a) f) → FoundAct a b f

place_act : {a b c : Tokens} {u : EflPlace} {o : Option EflOperator} {f : EflExpr} → FoundPlace a b u → FoundPart n.Storing b c (val.rest (bare (part.Stored o f))) → FoundAct a c (Assign o u f)
unfolding built
place_act (named h none k) st = begun h (make p.DeedPlace tt _ _ _ k _ _ st) refl
place_act (named h (some u) k) st =
    begun h (make p.DeedOpen tt _ _ _ (found_token t.Open _ _ refl) _ _
    (make p.DeedFull tt _ _ _ u _ _ (found_token t.Close _ _ refl) _ _ (make p.DeedStored tt _ _ _ k _ _ st))) refl

pub found_act : {a b : Tokens} {f : EflExpr} → e.Act a b f → IsSome b → FoundAct a b f
unfolding built
found_act (e.stored q o c) s = let right : _ = storing o (found_expr c s) in place_act (found_place q (is_some right)) right
found_act (e.stepped (e.up one q)) s = step (make p.StepDeed tt _ _ _ (found_token t.Stepper _ _ refl) _ _ (place_part (found_place q s)))
found_act (e.stepped (e.down one q)) s = step (make p.StepDeed tt _ _ _ (found_token t.Stepper _ _ refl) _ _ (place_part (found_place q s)))
found_act (e.called (name h) one one) s =
    begun h (make p.DeedOpen tt _ _ _ (found_token t.Open _ _ refl) _ _ (make p.DeedEmpty tt _ _ _ (found_token t.Close _ _ refl))) refl
found_act (e.called_with (name h) (e.subs one es one)) s =
    begun h (make p.DeedOpen tt _ _ _ (found_token t.Open _ _ refl) _ _
    (make p.DeedFull tt _ _ _ (arguments (found_exprs es tt)) _ _ (found_token t.Close _ _ refl) _ _ (found_empty p.DeedCalled refl (λ k. refl) s))) refl

pub found_condition : {a b : Tokens} {f : EflExpr} → e.Condition a b f → FoundPart n.Condition a b (val.expr f)
unfolding built
found_condition (e.condition one f one) = make p.Condition tt _ _ _ (found_token t.Open _ _ refl) _ _ (make p.WholeExpr tt _ _ _ (found_expr f tt)) _ _ (found_token t.Close _ _ refl)

-- a part whose value is read by what stands behind it
pub record FoundSo {A : Type 0} (m : _) (read : Val → A) (a b : Tokens) (x : A) : Type 0 where
  pub value : Val
  pub found : FoundPart m a b value
  pub is : read value ≡ x

part_of : {a b : Tokens} {f : EflExpr} → FoundAct a b f → FoundSo n.Part expr_part a b (Some f)
unfolding built
part_of (begun h c g) = record { value = _; found = make p.NamedPart tt _ _ _ (found_name _ _ _ h) _ _ c; is = ap (λ z. Some z) g }
part_of (step c) = record { value = _; found = make p.SteppedPart tt _ _ _ c; is = refl }

pub found_part : {a b : Tokens} {x : Option EflExpr} → Perhaps e.Act a b x → IsSome b → FoundSo n.Part expr_part a b x
unfolding built
found_part Perhaps.none g = record { value = nothing; found = found_empty p.NoPart refl (λ k. refl) g; is = refl }
found_part (Perhaps.some q) g = part_of (found_act q g)

pub found_whole : {a b : Tokens} {x : Option EflExpr} → Perhaps e.Expr a b x → IsSome b → FoundSo n.AnyWhole expr_part a b x
unfolding built
found_whole Perhaps.none g = record { value = nothing; found = found_empty p.NoWhole refl (λ k. refl) g; is = refl }
found_whole (Perhaps.some {x = f} q) g = record { value = val.expr f; found = make p.SomeWhole tt _ _ _ (make p.WholeExpr tt _ _ _ (found_expr q g)); is = refl }

pub found_step_part : {a b : Tokens} {x : Option EflExpr} → Perhaps (s.Comma e.Expr) a b x → IsSome b → FoundSo n.StepPart expr_part a b x
unfolding built
found_step_part Perhaps.none g = record { value = nothing; found = found_empty p.NoStep refl (λ k. refl) g; is = refl }
found_step_part (Perhaps.some {x = f} (s.Comma.comma one q)) g =
    record { value = val.expr f; found = make p.SomeStep tt _ _ _ (found_token t.Comma _ _ refl) _ _ (make p.WholeExpr tt _ _ _ (found_expr q g)); is = refl }

pub found_outcome : {a b : Tokens} {x : Option EflExpr} → Perhaps e.Condition a b x → IsSome b → FoundSo n.Outcome expr_part a b x
unfolding built
found_outcome Perhaps.none g = record { value = nothing; found = found_empty p.NoOutcome refl (λ k. refl) g; is = refl }
found_outcome (Perhaps.some {x = f} q) g = record { value = val.expr f; found = make p.SomeOutcome tt _ _ _ (found_condition q); is = refl }

pub found_lines : {a b : Tokens} → Lines a b → IsSome b → FoundPart n.Lines a b nothing
unfolding built
found_lines Lines.none g = found_empty p.NoLine refl (λ k. refl) g
found_lines (Lines.line one l) g = make p.OneLine tt _ _ _ (found_token t.LineEnd _ _ refl) _ _ (found_lines l g)
