-- What a session does to the outside, one act after another, and how far what was put and what was stored may be apart where
-- a fault cut it off: by a part of one act.
use Rattle.std.specs.Prelude.{◌≡◌, ◌≢◌, ℕ, List, [], ◌∷◌, ◌++◌, Option}
use Rattle.ap_outside.specs.Faults.{Rose}
use Rattle.ap_outside.specs.Files.{Files}
use Rattle.ap_outside.specs.Gains.{Gained, GainedPart}
use Rattle.ap_session.specs.Storing.{Stored, StoredPart}

-- it gained a prefix of this text, and something of the text is left
pub record GainedLess (before after : Option (List ℕ)) (text : List ℕ) : Type 0 where
  pub part : List ℕ
  pub rest : List ℕ
  pub whole : text ≡ part ++ rest
  pub gained : Gained before after part
  pub left : rest ≢ []

-- a text is put, or a file is stored
pub data Act : Type 0 where
  put : List ℕ → Act
  store : List ℕ × List ℕ → Act

-- the text that acts put, and the files that they store
abbrev pub put_by : List Act → List ℕ
put_by [] = []
put_by (put text ∷ acts) = text ++ put_by acts
put_by (store file ∷ acts) = put_by acts

abbrev pub stored_by : List Act → Files
stored_by [] = []
stored_by (put text ∷ acts) = stored_by acts
stored_by (store file ∷ acts) = file ∷ stored_by acts

-- what a sink and a library tell: the text that was put with the count of its faults, the files with that of the stores'
pub record Outside : Type 0 where
  pub content : Option (List ℕ)
  pub puts : ℕ
  pub files : Option Files
  pub stores : ℕ

abbrev pub outside : Option (List ℕ) → ℕ → Option Files → ℕ → Outside
outside content puts files stores = record { content = content; puts = puts; files = files; stores = stores }

-- these acts were all done, and nothing else
pub record Acted (before after : Outside) (acts : List Act) : Type 0 where
  pub text : Gained before.content after.content (put_by acts)
  pub files : Stored before.files after.files (stored_by acts)

-- of the first of these acts at most a part was done: a prefix of its text was put, or its file may have been touched
abbrev pub Begun : Outside → Outside → List Act → Type 0
Begun before after [] = Acted before after []
Begun before after (put text ∷ acts) = GainedPart before.content after.content text × Stored before.files after.files []
Begun before after (store file ∷ acts) =
    Gained before.content after.content [] × StoredPart before.files after.files (file ∷ [])

-- The first of these acts, which begins at `between`, is the one that failed, which was counted. Of a text that failed
-- something wasn't put.
abbrev pub FailedAt : Outside → Outside → Outside → List Act → Type 0
FailedAt before between after [] = ⊥
FailedAt before between after (put text ∷ acts) = Rose before.puts after.puts × GainedLess between.content after.content text
FailedAt before between after (store file ∷ acts) = Rose before.stores after.stores

-- The first of these acts were done, of the one behind them at most a part, and of those behind it none. Where an act
-- failed it is that one.
pub record Tied (before after : Outside) (failed : Type 0) (acts : List Act) : Type 0 where
  pub done : List Act
  pub rest : List Act
  pub whole : acts ≡ done ++ rest
  pub between : Outside
  pub first : Acted before between done
  pub cut : Begun between after rest
  pub cause : failed → FailedAt before between after rest
