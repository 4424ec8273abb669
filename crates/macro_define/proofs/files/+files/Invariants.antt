-- Each file that an include adds may nest one less. In a file, what it makes is what its tokens from here on make, of which
-- there are at most n.
use Rattle.std.proofs.Common.{◌≡◌, ℕ, ◌+◌, ◌*◌, ◌≤◌, [], length}
use Rattle.macro_define.specs.Answers.{Through}
use Rattle.macro_define.specs.Expansion.{file_made, from_tokens, include_made}
use Rattle.macro_define.specs.Gathered.{world}
use Rattle.macro_define.proofs.files.+files.Given as goal

abbrev pub decreases-add_file : goal.decreases-add_file
decreases-add_file g l = 3 * l.depth + 2

abbrev pub decreases-add_include : goal.decreases-add_include
decreases-add_include g l = 3 * l.depth

abbrev pub decreases-add_part : goal.decreases-add_part
decreases-add_part g l = 3 * l.depth + 1

abbrev pub invariant-add_file-loop-line : goal.invariant-add_file-loop-line
invariant-add_file-loop-line g l =
    (n : ℕ) × ((length l.tokens.tokens ≤ n)
    × Through (g.L.Library.files l.fn.library) (λ names. g.L.Library.fetches l.fn.library names l.library) (λ before after.
    file_made l.dialect (include_made l.dialect l.depth l.name) l.outermost l.name l.text (world l.fn.gathering before)
    ≡ from_tokens (include_made l.dialect l.depth l.name) l.dialect l.outermost l.name n l.begins l.tokens.tokens l.tokens.fault (world l.gathering after))
    × (l.gathering.room ≤ 4194304)
    × (g.L.Library.files l.library ≡ g.L.Library.files l.fn.library)
    × g.L.Library.becomes l.fn.library l.library
    × (g.L.Library.faults l.library ≡ g.L.Library.faults l.fn.library)
    × (l.line.items ≡ []))

abbrev pub decreases-add_file-loop-line : goal.decreases-add_file-loop-line
decreases-add_file-loop-line g l = length l.tokens.tokens
