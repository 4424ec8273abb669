-- Lists inside trees, as the lists that the code goes over; and digits behind a number that is too large.
use Rattle.std.proofs.Common.{◌≡◌, ℕ, ◌+◌, ◌-◌, ◌*◌, ◌<◌, Vec, Global, Bool, true, List, [], ◌∷◌, sym, ap, ◌∙◌, arith}
use Rattle.std.specs.Prelude.{nat_lt}
use Rattle.std.proofs.lemmas.Bool.Decides.{nat_tests}
use Rattle.f66_tree.specs.declared.declaration.Par.{Par}
use Rattle.f66_tree.specs.declared.statement.Entry.{Entry}
use Rattle.f66_tree.specs.declared.statement.Entry.TheVariants as n
use Rattle.f66_tree.specs.Syntax.{Text, Many}
use Rattle.f66_tree.specs.Syntax as f66
use Rattle.f66_tree.specs.Views.{entries_of, entry_of, par_of}
use Rattle.f66_tree.proofs.Rows.{many_entry}
use Rattle.stmt_reader.specs.Formats.{value_after}

pub many_seen : (f : f66.Entry → Bool) (e : Entry) (list : Vec Entry Global) (x : Text) (a b c : Par) (seen : List Entry) → e ≡ n.Many list x a b c → seen ≡ list.items
    → f (Many (entries_of seen) x (par_of a) (par_of b) (par_of c)) ≡ f (entry_of e)
many_seen f e list x a b c seen is same =
    ap (λ (es : List Entry). f (Many (entries_of es) x (par_of a) (par_of b) (par_of c))) same ∙ ap f (sym (many_entry list x a b c) ∙ ap entry_of (sym is))

-- a number that is too large stays so
pub stays_large : (n : ℕ) (cs : List ℕ) → 2147483647 < n → nat_lt 2147483647 (value_after n cs) ≡ true
stays_large n [] large = grind (arith, nat_tests)
stays_large n (c ∷ cs) large = stays_large (n * 10 + (c - 48)) cs (omega arith)
