-- The uses of names in memory.
use Rattle.f66_names.specs.Uses.{Usage}
use Rattle.f66_names.specs.declared.uses.Use.{Use}

abbrev pub use_of : Use → Usage
use_of u = record { name = u.name.now; manner = u.manner }
