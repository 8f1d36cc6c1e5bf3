-- Classes of bytes.
use Rattle.std.specs.Prelude.{ℕ, Bool, ◌||◌, ◌==◌}

-- a tab, a line feed, a form feed, a carriage return, a space
unfoldable pub is_blank : ℕ → Bool
is_blank c = c == 9 || c == 10 || c == 12 || c == 13 || c == 32

-- a blank or one of ( ) ' " ; ` ,
unfoldable pub ends_atom : ℕ → Bool
ends_atom c = is_blank c || c == 40 || c == 41 || c == 39 || c == 34 || c == 59 || c == 96 || c == 44
