-- The first procedure of each name, as procedures come.
use Rattle.std.proofs.Common.{◌≡◌, ◌<◌, ◌+◌, ◌∙◌, ◌∷◌, ◌++◌, [], ℕ, Bool, true, false, cond, List, length, map, take, get_or, Option, None, Some, unwrap_or, zero, suc, refl, sym, ap, arith}
use Rattle.std.specs.Prelude.{option_map, if◌then◌else◌}
use Rattle.std.specs.List.{slice_get}
use Rattle.std.specs.Option.{option_or}
use Rattle.std.specs.Str.{bytes_eq}
use Rattle.std.proofs.lemmas.List.{length-map, map-append, take_more, length-take-le}
use Rattle.rule_table.specs.Words.{is_some_and}
use Rattle.rule_table.proofs.WordLemmas.{first_place-push}
use Rattle.ground.specs.declared.value.Kind.{Kind}
use Rattle.ground.specs.declared.value.Kind.TheVariants.{Integer}
use Rattle.efl_tree.specs.declared.procedure.EflProcedure as memory
use Rattle.efl_tree.specs.Syntax.{Text, EflProcedure}
use Rattle.efl_tree.specs.Views.{procedure_of}
use Rattle.efl_types.specs.Signatures.{result_of}
use Rattle.efl_types.specs.Whole.{number_of}
use Rattle.efl_typed.specs.Typing.{given_kind, value_kind}

numbered_push : (x : Text) (us : List EflProcedure) (u : EflProcedure) → number_of (us ++ u ∷ []) x ≡ option_or (number_of us x) (if is_some_and (bytes_eq x) u.name then Some (length us) else None)
numbered_push x us u = first_place-push (λ v. is_some_and (bytes_eq x) v.name) us u ∙ ap (option_or (number_of us x)) (by (is_some_and (bytes_eq x) u.name))
  where
    by : (b : Bool) → cond b (Some (length us)) None ≡ (if b then Some (length us) else None)
    by true = refl
    by false = refl

numbered_more : (x : Text) (us : List memory.EflProcedure) (i : ℕ) (u : memory.EflProcedure) → i < length us → u ≡ get_or us i u →
    number_of (map procedure_of (take (i + 1) us)) x
    ≡ option_or (number_of (map procedure_of (take i us)) x) (if is_some_and (bytes_eq x) (procedure_of u).name then Some i else None)
numbered_more x us i u lt is =
    let before = map procedure_of (take i us) in
    ap (λ vs. number_of (map procedure_of vs) x) (take_more us i u lt ∙ ap (λ v. take i us ++ v ∷ []) (sym is))
    ∙ ap (λ vs. number_of vs x) (map-append procedure_of (take i us) (u ∷ [])) ∙ numbered_push x before (procedure_of u)
    ∙ ap (λ n. option_or (number_of before x) (if is_some_and (bytes_eq x) (procedure_of u).name then Some n else None)) (length-map (take i us) procedure_of ∙ length-take-le i us (omega (arith, lt)))

or_mapped : {X Y : Type 0} (f : X → Y) (o : Option X) (b : Bool) (x : X) → option_map f (option_or o (if b then Some x else None)) ≡ option_or (option_map f o) (if b then Some (f x) else None)
or_mapped f (Some z) b x = refl
or_mapped f None true x = refl
or_mapped f None false x = refl

at_mapped : (us : List memory.EflProcedure) (i : ℕ) (u : memory.EflProcedure) → i < length us → u ≡ get_or us i u → slice_get (map procedure_of us) i ≡ Some (procedure_of u)
at_mapped [] i u lt is = absurd (omega arith)
at_mapped (v ∷ us) zero u lt is = ap (λ w. Some (procedure_of w)) (sym is)
at_mapped (v ∷ us) (suc i) u lt is = at_mapped us i u (omega arith) is

-- one procedure more
pub procedure_more : (x : Text) (us : List memory.EflProcedure) (i : ℕ) (u : memory.EflProcedure) (k : Kind) (old new : Option (ℕ × Kind)) → i < length us → u ≡ get_or us i u →
    k ≡ given_kind (result_of (procedure_of u).result) →
    old ≡ option_map (λ n. (n, value_kind (map procedure_of us) n)) (number_of (map procedure_of (take i us)) x) →
    new ≡ option_or old (if is_some_and (bytes_eq x) (procedure_of u).name then Some (i, k) else None) →
    new ≡ option_map (λ n. (n, value_kind (map procedure_of us) n)) (number_of (map procedure_of (take (i + 1) us)) x)
procedure_more x us i u k old new lt is kind before comes =
    let f : ℕ → ℕ × Kind = λ n. (n, value_kind (map procedure_of us) n) in
    let named : Bool = is_some_and (bytes_eq x) (procedure_of u).name in
    comes
    ∙ ap (λ o. option_or o (if named then Some (i, k) else None)) before
    ∙ ap (λ j. option_or (option_map f (number_of (map procedure_of (take i us)) x)) (if named then Some (i, j) else None)) (kind ∙ sym (given us i u lt is))
    ∙ sym (or_mapped f (number_of (map procedure_of (take i us)) x) named i)
    ∙ ap (option_map f) (sym (numbered_more x us i u lt is))
  where
    given : (vs : List memory.EflProcedure) (j : ℕ) (v : memory.EflProcedure) → j < length vs → v ≡ get_or vs j v → value_kind (map procedure_of vs) j ≡ given_kind (result_of (procedure_of v).result)
    given vs j v below at = ap (λ o. unwrap_or (option_map (λ w. given_kind (result_of w.result)) o) Integer) (at_mapped vs j v below at)
