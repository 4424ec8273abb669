-- The numbers and names of faults, as reports show them.
use Rattle.std.specs.Prelude.{ℕ, List, codes}
use Rattle.ground.specs.declared.fault.FaultKind.{FaultKind}
use Rattle.ground.specs.declared.fault.FaultKind.TheVariants.{BadByte, UnclosedQuote, NumberTooLarge, MacroLoop, BadDefine, IncludeMissing, IncludeDepth, PercentLine, Syntax, NameTooLong, OutOfProfileType, TypeClash, WrongCount, DuplicateName, BadLabel, BadBreak, DuplicateCase, BadConstant, BadEquivalence, CommonMismatch, DoNesting, MainCount, MissingUnit, DuplicateUnit, Recursion, BadFormat, NotAssignable, BadCard, InitialTwice, Limit, Unbuilt}

abbrev pub fault_number : FaultKind → ℕ
fault_number BadByte = 1
fault_number UnclosedQuote = 2
fault_number NumberTooLarge = 3
fault_number MacroLoop = 4
fault_number BadDefine = 5
fault_number IncludeMissing = 6
fault_number IncludeDepth = 7
fault_number PercentLine = 8
fault_number Syntax = 9
fault_number NameTooLong = 10
fault_number OutOfProfileType = 11
fault_number TypeClash = 12
fault_number WrongCount = 13
fault_number DuplicateName = 14
fault_number BadLabel = 15
fault_number BadBreak = 16
fault_number DuplicateCase = 17
fault_number BadConstant = 18
fault_number BadEquivalence = 19
fault_number CommonMismatch = 20
fault_number DoNesting = 21
fault_number MainCount = 22
fault_number MissingUnit = 23
fault_number DuplicateUnit = 24
fault_number Recursion = 25
fault_number BadFormat = 26
fault_number NotAssignable = 27
fault_number BadCard = 28
fault_number InitialTwice = 29
fault_number Limit = 30
fault_number Unbuilt = 31

abbrev pub fault_word : FaultKind → List ℕ
fault_word BadByte = codes "BadByte"
fault_word UnclosedQuote = codes "UnclosedQuote"
fault_word NumberTooLarge = codes "NumberTooLarge"
fault_word MacroLoop = codes "MacroLoop"
fault_word BadDefine = codes "BadDefine"
fault_word IncludeMissing = codes "IncludeMissing"
fault_word IncludeDepth = codes "IncludeDepth"
fault_word PercentLine = codes "PercentLine"
fault_word Syntax = codes "Syntax"
fault_word NameTooLong = codes "NameTooLong"
fault_word OutOfProfileType = codes "OutOfProfileType"
fault_word TypeClash = codes "TypeClash"
fault_word WrongCount = codes "WrongCount"
fault_word DuplicateName = codes "DuplicateName"
fault_word BadLabel = codes "BadLabel"
fault_word BadBreak = codes "BadBreak"
fault_word DuplicateCase = codes "DuplicateCase"
fault_word BadConstant = codes "BadConstant"
fault_word BadEquivalence = codes "BadEquivalence"
fault_word CommonMismatch = codes "CommonMismatch"
fault_word DoNesting = codes "DoNesting"
fault_word MainCount = codes "MainCount"
fault_word MissingUnit = codes "MissingUnit"
fault_word DuplicateUnit = codes "DuplicateUnit"
fault_word Recursion = codes "Recursion"
fault_word BadFormat = codes "BadFormat"
fault_word NotAssignable = codes "NotAssignable"
fault_word BadCard = codes "BadCard"
fault_word InitialTwice = codes "InitialTwice"
fault_word Limit = codes "Limit"
fault_word Unbuilt = codes "Unbuilt"
