-- A statement of one word, before the statements that are tried behind it.
use Rattle.std.proofs.Common.{◌≡◌, Bool, true, false, Option, Some, refl, sym, subst}
use Rattle.f66_tree.specs.Syntax.{Act}
use Rattle.stmt_reader.specs.Taking.{or_else}
use Rattle.stmt_lines.specs.Orders.{if_alone}

pub taken : (b : Bool) (a : Act) (o other : Option Act) → if_alone b a ≡ o → b ≡ true → Some a ≡ or_else o other
taken b a o other h e = subst (λ v. Some a ≡ or_else v other) h (subst (λ v. Some a ≡ or_else (if_alone v a) other) (sym e) refl)

pub passed : (b : Bool) (a : Act) (o other : Option Act) → if_alone b a ≡ o → b ≡ false → other ≡ or_else o other
passed b a o other h e = subst (λ v. other ≡ or_else v other) h (subst (λ v. other ≡ or_else (if_alone v a) other) (sym e) refl)
