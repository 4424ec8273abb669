-- What the code of statements answers, as plain data.
use Rattle.std.specs.Prelude.{ℕ, ◌+◌, Bool, Vec, List, take, drop, Option, Some, None}
use Rattle.std.specs.Global.{Global}
use Rattle.f66_tree.specs.declared.statement.StmtKind.{StmtKind}
use Rattle.f66_tree.specs.declared.declaration.Par.{Par}
use Rattle.f66_tree.specs.declared.unit.Header.{Header}
use Rattle.f66_tree.specs.declared.name.Name.{Name}
use Rattle.f66_tree.specs.Syntax as forms
use Rattle.f66_tree.specs.Syntax.{Act, Text}
use Rattle.f66_tree.specs.Views.{act_of, par_of, header_of}
use Rattle.stmt_reader.specs.declared.token.Token.{Token}
use Rattle.stmt_reader.specs.declared.cutting.Stop.{Stop}
use Rattle.stmt_reader.specs.declared.cutting.Stop.TheVariants as s
use Rattle.stmt_reader.specs.Cutting.{Halves, is_equals, is_comma, is_close}
use Rattle.stmt_reader.specs.Splitting.{is_slash}

abbrev pub act_if : Option StmtKind → Option Act
act_if None = None
act_if (Some k) = Some (act_of k)

abbrev pub par_option : Option Par → Option forms.Par
par_option None = None
par_option (Some p) = Some (par_of p)

abbrev pub stops : Stop → Token → Bool
stops s.Equals = is_equals
stops s.Close = is_close
stops s.Comma = is_comma
stops s.Slash = is_slash

-- what stands before a place and behind it
abbrev pub halves_at : List Token → Option ℕ → Option Halves
halves_at tokens None = None
halves_at tokens (Some i) = Some (take i tokens, drop (i + 1) tokens)

abbrev pub tokens_if : Option (Vec Token Global) → Option (List Token)
tokens_if None = None
tokens_if (Some v) = Some v.items

abbrev pub header_if : Option Header → Option forms.Header
header_if None = None
header_if (Some h) = Some (header_of h)

abbrev pub names_if : Option (Vec Name Global) → Option (List Text)
names_if None = None
names_if (Some v) = Some v.items
