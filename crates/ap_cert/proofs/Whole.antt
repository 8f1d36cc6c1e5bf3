-- What a whole text is answered, and that no other answer fits it.
use Rattle.std.proofs.Common.{◌≡◌, ◌⊎◌, inl, inr, ℕ, List, ◌∷◌, ◌++◌, Option, Some, None, MatchOption, Result, Ok, Err, IfOk, IfErr, ok_or, codes, refl, sym, ap, ◌∙◌}
use Rattle.sha2.specs.Sha256.{sha256}
use Rattle.ap_cert.specs.declared.cert.Cert.{Cert}
use Rattle.ap_cert.specs.declared.cert.CertError.{CertError}
use Rattle.ap_cert.specs.declared.cert.CertError.TheVariants.{NotCert, Version, Truncated, HashDiffers, NoMemory}
use Rattle.ap_cert.specs.Cert.{IsCert, WellWritten, Refuses, cert_text, head_line, title, first_line}
use Rattle.ap_cert.specs.Reads.{Without, Reads, ReadsNone, Differs, body_text, Answers}
use Rattle.ap_cert.proofs.Split.{ended-cons, first_of_cut, append_cancel, without_not}
use Rattle.ap_cert.proofs.Printed.{head_plain}
use Rattle.ap_cert.proofs.OneReading.{one_reading}

-- the first line of version 1 is the title and the version
pub versioned : head_line ≡ title ++ codes "1"
unfolding head_line title
versioned = refl

text_parts : (c : Cert) → cert_text c ≡ head_line ++ 10 ∷ body_text c
text_parts c = ended-cons head_line _

first_of_cert : (text : List ℕ) (c : Cert) → IsCert text c → first_line text ≡ head_line
first_of_cert text c h = ap first_line (h.0 ∙ text_parts c) ∙ first_of_cut head_line (body_text c) head_plain

-- the first line
pub not_title : (text line book : List ℕ) → line ≡ first_line text → ((rest : List ℕ) → ¬ (line ≡ codes "acl2p certificate " ++ rest)) → Refuses NotCert text book
unfolding title
not_title text line book e h rest f = h rest (e ∙ f)

pub not_version : (text line book version : List ℕ) → line ≡ first_line text → line ≡ codes "acl2p certificate " ++ version → ¬ (version ≡ codes "1") → Refuses Version text book
unfolding title
not_version text line book version e f h = (version, sym e ∙ f, h)

pub titled : (line version : List ℕ) → line ≡ codes "acl2p certificate " ++ version → version ≡ codes "1" → line ≡ head_line
unfolding head_line
titled line version e f = e ∙ ap (λ xs. codes "acl2p certificate " ++ xs) f

pub not_ended : (text line book : List ℕ) → line ≡ first_line text → line ≡ head_line → Without 10 text → Refuses Truncated text book
not_ended text line book e f h = (sym e ∙ f, λ c is. without_not 10 head_line (body_text c) (rw (is.0 ∙ text_parts c) at h))

pub behind_ok : {X : Type 0} (text line : List ℕ) (now : X → List ℕ) (o : Option X) (r : Result X CertError) → r ≡ ok_or o Truncated
    → MatchOption o (Without 10 text) (λ x. text ≡ line ++ 10 ∷ now x) → line ≡ head_line → IfOk r (λ x. text ≡ head_line ++ 10 ∷ now x)
behind_ok text line now None r e h f = rw e tt
behind_ok text line now (Some x) r e h f = rw e (h ∙ ap (λ xs. xs ++ 10 ∷ now x) f)

pub behind_err : {X : Type 0} (text line : List ℕ) (now : X → List ℕ) (o : Option X) (r : Result X CertError) → r ≡ ok_or o Truncated
    → MatchOption o (Without 10 text) (λ x. text ≡ line ++ 10 ∷ now x) → line ≡ first_line text → line ≡ head_line → IfErr r (λ e. (book : List ℕ) → Refuses e text book)
behind_err text line now None r e h first f = rw e (λ book. not_ended text line book first f h)
behind_err text line now (Some x) r e h first f = rw e tt

-- behind it
pub no_body : (text body book : List ℕ) → text ≡ head_line ++ 10 ∷ body → ReadsNone WellWritten body_text body → Refuses Truncated text book
no_body text body book e none = (
  ap first_line e ∙ first_of_cut head_line body head_plain,
  λ c is.
      let both : 10 ∷ body ≡ 10 ∷ body_text c = append_cancel head_line (10 ∷ body) (10 ∷ body_text c) (sym e ∙ is.0 ∙ text_parts c) in
      none c is.1 (cc),
)

pub the_cert : (text body : List ℕ) (c : Cert) → text ≡ head_line ++ 10 ∷ body → Reads WellWritten body_text body c → IsCert text c
the_cert text body c e reads = (e ∙ ap (λ xs. head_line ++ 10 ∷ xs) reads.1 ∙ sym (text_parts c), reads.0)

-- no refusal fits a certificate of these bytes
not_refused : (text book : List ℕ) (c : Cert) (e : CertError) → IsCert text c → c.digest ≡ sha256 book → ¬ Refuses e text book
not_refused text book c NotCert is d h = h (codes "1") (first_of_cert text c is ∙ versioned)
not_refused text book c Version is d h = h.2 (append_cancel title h.0 (codes "1") (sym h.1 ∙ first_of_cert text c is ∙ versioned))
not_refused text book c Truncated is d h = h.1 c is
not_refused text book c (HashDiffers named found) is d h =
    let same : c ≡ h.0 = one_reading text c h.0 is h.1 in
    h.4 (sym h.2 ∙ ap (λ (x : Cert). x.digest) (sym same) ∙ d ∙ h.3)
not_refused text book c NoMemory is d h = h

-- and one at most fits a text
version_not : (text : List ℕ) → first_line text ≡ head_line → (rest : List ℕ) → first_line text ≡ title ++ rest → ¬ (rest ≡ codes "1") → ⊥
version_not text e rest f h = h (append_cancel title rest (codes "1") (sym f ∙ e ∙ versioned))

same_digests : (a b d e : List ℕ) → a ≡ b → d ≡ e → HashDiffers a d ≡ HashDiffers b e
same_digests a b d e p q = cc

one_refusal : (text book : List ℕ) (d e : CertError) → Refuses d text book → Refuses e text book → d ≡ e
one_refusal text book NoMemory e g h = absurd g
one_refusal text book NotCert NoMemory g h = absurd h
one_refusal text book Version NoMemory g h = absurd h
one_refusal text book Truncated NoMemory g h = absurd h
one_refusal text book (HashDiffers n f) NoMemory g h = absurd h
one_refusal text book NotCert NotCert g h = refl
one_refusal text book NotCert Version g h = absurd (g h.0 h.1)
one_refusal text book NotCert Truncated g h = absurd (g (codes "1") (h.0 ∙ versioned))
one_refusal text book NotCert (HashDiffers n f) g h = absurd (g (codes "1") (first_of_cert text h.0 h.1 ∙ versioned))
one_refusal text book Version NotCert g h = absurd (h g.0 g.1)
one_refusal text book Version Version g h = refl
one_refusal text book Version Truncated g h = absurd (version_not text h.0 g.0 g.1 g.2)
one_refusal text book Version (HashDiffers n f) g h = absurd (version_not text (first_of_cert text h.0 h.1) g.0 g.1 g.2)
one_refusal text book Truncated NotCert g h = absurd (h (codes "1") (g.0 ∙ versioned))
one_refusal text book Truncated Version g h = absurd (version_not text g.0 h.0 h.1 h.2)
one_refusal text book Truncated Truncated g h = refl
one_refusal text book Truncated (HashDiffers n f) g h = absurd (g.1 h.0 h.1)
one_refusal text book (HashDiffers n f) NotCert g h = absurd (h (codes "1") (first_of_cert text g.0 g.1 ∙ versioned))
one_refusal text book (HashDiffers n f) Version g h = absurd (version_not text (first_of_cert text g.0 g.1) h.0 h.1 h.2)
one_refusal text book (HashDiffers n f) Truncated g h = absurd (h.1 g.0 g.1)
one_refusal text book (HashDiffers n f) (HashDiffers m k) g h =
    let same : g.0 ≡ h.0 = one_reading text g.0 h.0 g.1 h.1 in
    same_digests n m f k (sym g.2 ∙ ap (λ (x : Cert). x.digest) same ∙ h.2) (sym g.3 ∙ h.3)

pub only_cert : (r : Result Cert CertError) (text book : List ℕ) → Answers r text book → (c : Cert) → IsCert text c → c.digest ≡ sha256 book → (r ≡ Ok c) ⊎ (r ≡ Err NoMemory)
only_cert (Ok d) text book h c is e = inl (ap Ok (one_reading text d c h.0 is))
only_cert (Err e) text book (inl none) c is d = inr (ap Err none)
only_cert (Err e) text book (inr h) c is d = absurd (not_refused text book c e is d h)

pub only_refusal : (r : Result Cert CertError) (text book : List ℕ) → Answers r text book → (e : CertError) → Refuses e text book → (r ≡ Err e) ⊎ (r ≡ Err NoMemory)
only_refusal (Ok c) text book h e g = absurd (not_refused text book c e h.0 h.1 g)
only_refusal (Err d) text book (inl none) e g = inr (ap Err none)
only_refusal (Err d) text book (inr h) e g = inl (ap Err (one_refusal text book d e h g))

-- a certificate, held against the book's bytes
pub held_against : (text book : List ℕ) (c : Cert) (r : Result Cert CertError) → IsCert text c → IfOk r (λ d. (d ≡ c) × (c.digest ≡ sha256 book)) → IfErr r (λ e. Differs c.digest (sha256 book) e)
    → Answers r text book
held_against text book c (Ok d) is ok err = rw ok.0 (is, ok.1)
held_against text book c (Err e) is ok err = inr (rw err.0 (c, is, refl, refl, err.1))
