-- The lemmas of front.
pub mod FirstFaults
mod ScopeFaults
mod WholeFaults
mod FitPrograms
mod EflPrograms
mod SaidPlaces
mod SaidNames
mod OneMeaning
mod OneVerdict
mod Ending
mod ProgramLemmas
mod ServeUnits
