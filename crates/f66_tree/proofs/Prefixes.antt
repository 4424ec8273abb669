-- Records that begin other records.
use Rattle.std.proofs.Common.{List, [], ◌∷◌, ◌++◌, sym, ap, ◌∙◌, append-nil, append_assoc, refl}
use Rattle.f66_tree.specs.World.{Record, IsPrefix}

pub prefix_self : (a : List Record) → IsPrefix a a
prefix_self a = record { rest = []; is = append-nil a }

pub prefix_in : {a b c : List Record} → IsPrefix a b → IsPrefix b c → IsPrefix a c
prefix_in {a} h k = record { rest = h.rest ++ k.rest; is = sym (append_assoc a h.rest k.rest) ∙ ap (λ l. l ++ k.rest) h.is ∙ k.is }

-- one record more
pub prefix_more : {a b : List Record} → (r : Record) → IsPrefix a b → IsPrefix a (b ++ r ∷ [])
prefix_more r h = prefix_in h (record { rest = r ∷ []; is = refl })
