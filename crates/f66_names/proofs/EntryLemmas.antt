-- Implied DO lists, and the lists in them.
use Rattle.std.proofs.Common.{◌≡◌, ◌<◌, List, [], ◌∷◌, ◌++◌, length, Vec, Global, Result, OnOk, refl, ap, sym, ◌∙◌, arith, append_assoc}
use Rattle.std.proofs.lemmas.Result.{on_ok_weaker}
use Rattle.f66_tree.specs.declared.declaration.Par.{Par}
use Rattle.f66_tree.specs.declared.statement.Entry.{Entry}
use Rattle.f66_tree.specs.declared.statement.Entry.TheVariants as entries
use Rattle.f66_tree.specs.Syntax as forms
use Rattle.f66_tree.specs.Syntax.{Text, Many}
use Rattle.f66_tree.specs.Views.{par_of, entry_of, entries_of}
use Rattle.f66_tree.proofs.Rows.{many_entry}
use Rattle.f66_names.specs.Shapes.{are_items, are_some_items}
use Rattle.f66_names.specs.Uses.{Usage}

-- what is said of an implied DO in memory
pub many_seen : {A : Type 0} (f : forms.Entry → A) (e : Entry) (list : Vec Entry Global) (x : Text) (a b d : Par) (seen : List Entry) → e ≡ entries.Many list x a b d → seen ≡ list.items →
    f (Many (entries_of seen) x (par_of a) (par_of b) (par_of d)) ≡ f (entry_of e)
many_seen f e list x a b d seen is at =
    ap (λ es. f (Many (entries_of es) x (par_of a) (par_of b) (par_of d))) at ∙ sym (ap (λ n. f (entry_of n)) is ∙ ap f (many_entry list x a b d))

pub some_items : (list : List Entry) → 0 < length list → are_items (entries_of list) ≡ are_some_items (entries_of list)
some_items [] h = absurd (omega arith)
some_items (a ∷ rest) h = refl

-- uses, and those behind them
pub used_after : {A E : Type 0} (result : Result A E) (old mid new us vs ws : List Usage) → mid ≡ old ++ us → us ++ vs ≡ ws →
    OnOk result (new ≡ mid ++ vs) → OnOk result (new ≡ old ++ ws)
used_after result old mid new us vs ws first whole second =
    on_ok_weaker result (λ e. e ∙ ap (λ xs. xs ++ vs) first ∙ append_assoc old us vs ∙ ap (λ xs. old ++ xs) whole) second
