-- What a read answers.
use Rattle.std.specs.Prelude.{ℕ, ◌≤◌, List, length, Option, Some, None, nat_le, if◌then◌else◌}
use Rattle.ap_outside.specs.declared.library.BookRead.{BookRead}
use Rattle.ap_outside.specs.declared.library.BookRead.TheVariants.{Absent, TooLong, Found}

-- nothing, too many bytes for a book, or the bytes
abbrev pub answer_of : Option (List ℕ) → BookRead
answer_of None = Absent
answer_of (Some bytes) = if nat_le (length bytes) 4194304 then Found (record { 0 = bytes }) else TooLong

-- a book that is found has no more bytes than a book may have
abbrev pub IsWithin : BookRead → Type 0
IsWithin Absent = Unit {0}
IsWithin TooLong = Unit {0}
IsWithin (Found book) = length book.0 ≤ 4194304
