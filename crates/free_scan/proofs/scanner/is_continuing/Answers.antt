-- In EFL a line goes on where it ends with one of the bytes that say so.
use Rattle.free_scan.proofs.scanner.is_continuing.Goals as goal

pub returns-in-Efl : goal.returns-in-Efl
returns-in-Efl c = let h = c.contains-in-Efl.ensures.value in rw c.in-Efl.is h
