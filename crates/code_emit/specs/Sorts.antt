-- What a name with arguments is, as it is in memory.
use Rattle.std.specs.Prelude.{map}
use Rattle.f66_tree.specs.Evaluation.{Intrinsic, Iabs, Mod, Isign, Idim, Max0, Min0, Sort, AnArray, AnIntrinsic, AFunction}
use Rattle.f66_tree.specs.Views.{par_of}
use Rattle.code_emit.specs.declared.sorts.Known.{Known}
use Rattle.code_emit.specs.declared.sorts.Known.TheVariants as k
use Rattle.code_emit.specs.declared.sorts.NameSort.{NameSort}
use Rattle.code_emit.specs.declared.sorts.NameSort.TheVariants as n

abbrev pub intrinsic_in : Known → Intrinsic
intrinsic_in k.Iabs = Iabs
intrinsic_in k.Mod = Mod
intrinsic_in k.Isign = Isign
intrinsic_in k.Idim = Idim
intrinsic_in k.Max0 = Max0
intrinsic_in k.Min0 = Min0

abbrev pub sort_in : NameSort → Sort
sort_in (n.Array sizes) = AnArray (map par_of sizes.now)
sort_in (n.Intrinsic g) = AnIntrinsic (intrinsic_in g)
sort_in n.Function = AFunction
