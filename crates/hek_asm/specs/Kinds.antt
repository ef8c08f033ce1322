-- The numbers and names of what can be wrong with a line of a schedule text.
use Rattle.std.specs.Prelude.{ℕ, List, codes}
use Rattle.hek_asm.specs.declared.fault.AsmKind.{AsmKind}
use Rattle.hek_asm.specs.declared.fault.AsmKind.TheVariants as kind

abbrev pub kind_number : AsmKind → ℕ
kind_number kind.NoBuckets = 1
kind_number kind.BadWord = 2
kind_number kind.BadNumber = 3
kind_number kind.UnknownName = 4
kind_number kind.NameTwice = 5
kind_number kind.KeyTwice = 6
kind_number kind.TooMany = 7
kind_number kind.BadBucket = 8
kind_number kind.NotAscii = 9

abbrev pub kind_name : AsmKind → List ℕ
kind_name kind.NoBuckets = codes "NoBuckets"
kind_name kind.BadWord = codes "BadWord"
kind_name kind.BadNumber = codes "BadNumber"
kind_name kind.UnknownName = codes "UnknownName"
kind_name kind.NameTwice = codes "NameTwice"
kind_name kind.KeyTwice = codes "KeyTwice"
kind_name kind.TooMany = codes "TooMany"
kind_name kind.BadBucket = codes "BadBucket"
kind_name kind.NotAscii = codes "NotAscii"
