-- The printed texts of a book.
use Rattle.std.specs.Prelude.{ℕ, Bool, true, false, List, [], ◌∷◌, ◌++◌, codes, decimal}
use Rattle.ap_reader.specs.declared.fault.ReadKind.{ReadKind}
use Rattle.ap_reader.specs.declared.fault.ReadKind.TheVariants as faults
use Rattle.ap_reader.specs.Faults.{ReadFault, number_of}

-- a text and the end of its line
abbrev pub line : List ℕ → List ℕ
line text = text ++ 10 ∷ []

-- the book's first line
unfoldable pub opening : List ℕ → List ℕ
opening name = codes "Book " ++ name ++ 10 ∷ []

-- the book's last line, by whether it is certified
unfoldable pub closing : List ℕ → Bool → List ℕ
closing name true = codes "Book " ++ name ++ line (codes " certified")
closing name false = codes "Book " ++ name ++ line (codes " not certified")

unfoldable pub absent_text : List ℕ
absent_text = line (codes "Absent")

unfoldable pub too_long_text : List ℕ
too_long_text = line (codes "Too long")

-- a book that isn't read: the first fault, by its number, its name and its place
unfoldable pub kind_text : ReadKind → List ℕ
kind_text faults.OpenString = codes "OpenString"
kind_text faults.OpenComment = codes "OpenComment"
kind_text faults.OpenBar = codes "OpenBar"
kind_text faults.BadHash = codes "BadHash"
kind_text faults.BadCharName = codes "BadCharName"
kind_text faults.OpenList = codes "OpenList"
kind_text faults.StrayClose = codes "StrayClose"
kind_text faults.NotInteger = codes "NotInteger"
kind_text faults.IntegerTooWide = codes "IntegerTooWide"
kind_text faults.TooDeep = codes "TooDeep"
kind_text faults.BadDot = codes "BadDot"
kind_text faults.BadPackage = codes "BadPackage"

unfoldable pub read_error_text : ReadFault → List ℕ
read_error_text e =
    codes "Read error " ++ decimal (number_of e.kind) ++ codes " " ++ kind_text e.kind ++ codes " at " ++ decimal e.place ++ 10 ∷ []

-- a book that doesn't begin with (in-package "ACL2")
unfoldable pub no_package_text : List ℕ
no_package_text = line (codes "IN-PACKAGE refused 12 NoInPackage")
