-- Files that are stored, one after another, and that books stay as they are where certificates are stored.
use Rattle.std.proofs.Common.{◌≡◌, ◌≢◌, ◌∙◌, ◌⊎◌, arith, ℕ, Bool, true, false, true≢false, cond, List, [], ◌∷◌, ◌++◌, Option, Some, None, refl, ap, sym, subst, inl, inr, append_assoc}
use Rattle.std.specs.Prelude.{option_map, codes}
use Rattle.std.specs.Str.{bytes_eq}
use Rattle.std.proofs.lemmas.Slice.Eq.{bytes_eq-Decides}
use Rattle.std.proofs.lemmas.List.{append-nil}
use Rattle.ap_list.specs.Lists.{Each}
use Rattle.ap_outside.specs.Files.{Files, bytes_at, told_at, OthersStay}
use Rattle.ap_session.specs.Certs.{cert_name, EndsOtherwise}
use Rattle.ap_session.specs.Session.{file_name}
use Rattle.ap_session.specs.Storing.{stored_at, Stored, IsFirst, StoredPart}

-- nothing
kept_told : (o : Option (Option (List ℕ))) (name : List ℕ) → o ≡ option_map (stored_at [] name) o
kept_told None name = refl
kept_told (Some x) name = refl

pub stored_none : (old new : Option Files) → new ≡ old → Stored old new []
stored_none old new same name = ap (λ fs. told_at fs name) same ∙ kept_told (told_at old name) name

-- one file
pub stored_one : (old new : Option Files) (name bytes : List ℕ) → told_at new name ≡ option_map (λ _. Some bytes) old → OthersStay name old new → Stored old new ((name, bytes) ∷ [])
stored_one old new name bytes here others n = go (bytes_eq n name) refl
  where
    all : (o : Option Files) → option_map (λ _. Some bytes) o ≡ option_map (λ x. Some bytes) (told_at o n)
    all None = refl
    all (Some fs) = refl

    go : (b : Bool) → bytes_eq n name ≡ b → told_at new n ≡ option_map (λ x. cond b (Some bytes) x) (told_at old n)
    go true e = ap (told_at new) ((bytes_eq-Decides n name).0 e) ∙ here ∙ all old
    go false e = others n (λ is. true≢false (sym ((bytes_eq-Decides n name).1 is) ∙ e)) ∙ kept_told (told_at old n) n

-- files behind files
at_more : (xs ys : Files) (name : List ℕ) (o : Option (List ℕ)) → stored_at (xs ++ ys) name o ≡ stored_at ys name (stored_at xs name o)
at_more [] ys name o = refl
at_more (x ∷ xs) ys name o = at_more xs ys name (cond (bytes_eq name x.0) (Some x.1) o)

told_more : (xs ys : Files) (name : List ℕ) (o : Option (Option (List ℕ))) → option_map (stored_at ys name) (option_map (stored_at xs name) o) ≡ option_map (stored_at (xs ++ ys) name) o
told_more xs ys name None = refl
told_more xs ys name (Some x) = ap (λ y. Some y) (sym (at_more xs ys name x))

pub stored_more : (a b c : Option Files) (xs ys : Files) → Stored a b xs → Stored b c ys → Stored a c (xs ++ ys)
stored_more a b c xs ys h k name = k name ∙ ap (option_map (stored_at ys name)) (h name) ∙ told_more xs ys name (told_at a name)

-- the first of some files

pub part_none : (old new : Option Files) (files : Files) → new ≡ old → StoredPart old new files
part_none old new files same = record { done = []; rest = files; whole = refl; elsewhere = λ name. inr (stored_none old new same name) }

pub part_all : (old new : Option Files) (files : Files) → Stored old new files → StoredPart old new files
part_all old new files h = record { done = files; rest = []; whole = sym (append-nil files); elsewhere = λ name. inr (h name) }

-- where the store of one failed
pub part_failed : (old new : Option Files) (name bytes : List ℕ) → OthersStay name old new → StoredPart old new ((name, bytes) ∷ [])
part_failed old new name bytes others = record { done = []; rest = (name, bytes) ∷ []; whole = refl; elsewhere = λ n. go n (bytes_eq n name) refl }
  where
    go : (n : List ℕ) (b : Bool) → bytes_eq n name ≡ b → IsFirst ((name, bytes) ∷ []) n ⊎ (told_at new n ≡ option_map (stored_at [] n) (told_at old n))
    go n true e = inl (sym ((bytes_eq-Decides n name).0 e))
    go n false e = inr (others n (λ is. true≢false (sym ((bytes_eq-Decides n name).1 is) ∙ e)) ∙ kept_told (told_at old n) n)

first_more : (xs ys : Files) (name : List ℕ) → IsFirst xs name → IsFirst (xs ++ ys) name
first_more [] ys name h = absurd h
first_more (x ∷ xs) ys name h = h

pub part_first : (old new : Option Files) (xs ys : Files) → StoredPart old new xs → StoredPart old new (xs ++ ys)
part_first old new xs ys h = record {
  done = h.done;
  rest = h.rest ++ ys;
  whole = ap (λ fs. fs ++ ys) h.whole ∙ append_assoc h.done h.rest ys;
  elsewhere = λ name. go name (h.elsewhere name);
}
  where
    go : (name : List ℕ) → IsFirst h.rest name ⊎ (told_at new name ≡ option_map (stored_at h.done name) (told_at old name))
        → IsFirst (h.rest ++ ys) name ⊎ (told_at new name ≡ option_map (stored_at h.done name) (told_at old name))
    go name (inl f) = inl (first_more h.rest ys name f)
    go name (inr e) = inr e

pub part_next : (a b c : Option Files) (xs ys : Files) → Stored a b xs → StoredPart b c ys → StoredPart a c (xs ++ ys)
part_next a b c xs ys h k = record {
  done = xs ++ k.done;
  rest = k.rest;
  whole = ap (λ fs. xs ++ fs) k.whole ∙ sym (append_assoc xs k.done k.rest);
  elsewhere = λ name. go name (k.elsewhere name);
}
  where
    go : (name : List ℕ) → IsFirst k.rest name ⊎ (told_at c name ≡ option_map (stored_at k.done name) (told_at b name))
        → IsFirst k.rest name ⊎ (told_at c name ≡ option_map (stored_at (xs ++ k.done) name) (told_at a name))
    go name (inl f) = inl f
    go name (inr e) = inr (e ∙ ap (option_map (stored_at k.done name)) (h name) ∙ told_more xs k.done name (told_at a name))

-- a name that isn't a certificate's keeps what stood there

abbrev pub AreCerts : Files → Type 0
AreCerts files = Each (λ file. (name : List ℕ) × (file.0 ≡ cert_name name)) files

at_other : (files : Files) (name : List ℕ) (o : Option (List ℕ)) → AreCerts files → EndsOtherwise name → stored_at files name o ≡ o
at_other [] name o certs other = refl
at_other (f ∷ fs) name o certs other = ap (λ b. stored_at fs name (cond b (Some f.1) o)) (go (bytes_eq name f.0) refl) ∙ at_other fs name o certs.1 other
  where
    go : (b : Bool) → bytes_eq name f.0 ≡ b → b ≡ false
    go false e = refl
    go true e = absurd (other certs.0.0 ((bytes_eq-Decides name f.0).0 e ∙ certs.0.1))

told_other : (files : Files) (name : List ℕ) (o : Option (Option (List ℕ))) → AreCerts files → EndsOtherwise name → option_map (stored_at files name) o ≡ o
told_other files name None certs other = refl
told_other files name (Some x) certs other = ap (λ y. Some y) (at_other files name x certs other)

pub other_stays : (old new : Option Files) (files : Files) (name : List ℕ) → Stored old new files → AreCerts files → EndsOtherwise name → told_at new name ≡ told_at old name
other_stays old new files name h certs other = h name ∙ told_other files name (told_at old name) certs other

certs_before : (xs ys : Files) → AreCerts (xs ++ ys) → AreCerts xs
certs_before [] ys h = tt
certs_before (x ∷ xs) ys h = (h.0, certs_before xs ys h.1)

certs_behind : (xs ys : Files) → AreCerts (xs ++ ys) → AreCerts ys
certs_behind [] ys h = h
certs_behind (x ∷ xs) ys h = certs_behind xs ys h.1

first_is_cert : (files : Files) (name : List ℕ) → AreCerts files → EndsOtherwise name → ¬ IsFirst files name
first_is_cert [] name certs other f = f
first_is_cert (file ∷ files) name certs other f = other certs.0.0 (sym f ∙ certs.0.1)

pub other_stays_part : (old new : Option Files) (files : Files) (name : List ℕ) → StoredPart old new files → AreCerts files → EndsOtherwise name → told_at new name ≡ told_at old name
other_stays_part old new files name h certs other = go (h.elsewhere name)
  where
    whole : AreCerts (h.done ++ h.rest)
    whole = subst AreCerts h.whole certs

    go : IsFirst h.rest name ⊎ (told_at new name ≡ option_map (stored_at h.done name) (told_at old name)) → told_at new name ≡ told_at old name
    go (inl f) = absurd (first_is_cert h.rest name (certs_behind h.done h.rest whole) other f)
    go (inr e) = e ∙ told_other h.done name (told_at old name) (certs_before h.done h.rest whole) other

-- the file of a book is no certificate's

abbrev last_byte : List ℕ → ℕ → ℕ
last_byte [] d = d
last_byte (b ∷ bs) d = last_byte bs b

ends_with : (xs : List ℕ) (y d : ℕ) → last_byte (xs ++ y ∷ []) d ≡ y
ends_with [] y d = refl
ends_with (x ∷ xs) y d = ends_with xs y x

of_book : (book : List ℕ) → last_byte (file_name book) 0 ≡ 112
of_book book = ap (λ t. last_byte t 0) (sym (append_assoc book (codes ".lis") (112 ∷ []))) ∙ ends_with (book ++ codes ".lis") 112 0

of_cert : (name : List ℕ) → last_byte (cert_name name) 0 ≡ 116
of_cert name = ap (λ t. last_byte t 0) (sym (append_assoc name (codes ".cer") (116 ∷ []))) ∙ ends_with (name ++ codes ".cer") 116 0

book_ends_otherwise : (book : List ℕ) → EndsOtherwise (file_name book)
book_ends_otherwise book name e =
    let same : 112 ≡ 116 = sym (of_book book) ∙ ap (λ t. last_byte t 0) e ∙ of_cert name in
    omega (arith, same)

-- so the library tells books as it did at the start
pub book_stays : (old new : Option Files) (files : Files) (book : List ℕ) → Stored old new files → AreCerts files → told_at new (file_name book) ≡ told_at old (file_name book)
book_stays old new files book h certs = other_stays old new files (file_name book) h certs (book_ends_otherwise book)
