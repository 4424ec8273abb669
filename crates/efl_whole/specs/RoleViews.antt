-- What names are, in memory.
use Rattle.std.specs.Prelude.{ℕ, nat_le, Bool, ◌&&◌, List, [], ◌∷◌, if◌then◌else◌}
use Rattle.std.specs.HashMap.{get_by}
use Rattle.std.specs.Str.{bytes_eq}
use Rattle.efl_whole.specs.declared.roles.Role.{Role}
use Rattle.efl_whole.specs.declared.roles.Role.TheVariants.{Single}
use Rattle.efl_whole.specs.declared.roles.Roles as memory
use Rattle.efl_whole.specs.declared.roles.Scopes.{Scopes}
use Rattle.efl_whole.specs.declared.roles.Scopes.TheBlock.{Outside, Inside'}
use Rattle.efl_whole.specs.declared.listing.LetterRange.{LetterRange}
use Rattle.efl_whole.specs.declared.listing.Letters.{Letters}
use Rattle.efl_whole.specs.declared.listing.Listed as blocks
use Rattle.efl_whole.specs.Roles.{Roles, no_role, inside, Listed}

abbrev pub roles_of : memory.Roles → Roles
roles_of r x = get_by (λ k. bytes_eq x k.now) r.table

abbrev pub scope_of : Scopes → Roles
scope_of Outside = no_role
scope_of (Inside' r p outside) = inside (roles_of r.now) (scope_of outside)

abbrev pub is_within : LetterRange → ℕ → Bool
is_within x c = nat_le x.first c && nat_le c x.last

-- of ranges the last one that a letter is in counts
abbrev pub letter_from : List LetterRange → Role → ℕ → Role
letter_from [] r c = r
letter_from (x ∷ xs) r c = letter_from xs (if is_within x c then x.role else r) c

abbrev pub letters_of : Letters → ℕ → Role
letters_of l c = letter_from l.list.items Single c

abbrev pub listed_of : blocks.Listed → Listed
listed_of l = record { names = roles_of l.names; variables = roles_of l.variables; letters = letters_of l.letters }
