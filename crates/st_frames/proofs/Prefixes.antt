-- No whole packet begins another.
use Rattle.std.proofs.Common.{◌≡◌, ℕ, ◌<◌, ◌^◌, List, [], ◌∷◌, ◌++◌, length, refl, sym, ap, ◌∙◌, arith, append_assoc}
use Rattle.std.proofs.lemmas.List.{append-nil, length-append}
use Rattle.st_oer.specs.declared.error.OerError.{OerError}
use Rattle.st_oer.specs.Spelling.{octets, var_uint}
use Rattle.st_oer.specs.Reading.{var_uint_at}
use Rattle.st_oer.proofs.BothWays.{var_uint_again}
use Rattle.st_frames.specs.Reading.{Raw, raws_at}
use Rattle.st_frames.specs.Relation.{AreFrames, no_frame, next_frame}
use Rattle.st_frames.specs.Laws.{NoneBegins}
use Rattle.st_frames.proofs.Results.{ok_is}
use Rattle.st_frames.proofs.PacketLaws.{raws_again}

-- two numbers in front of equal bytes are one number, and the same follows them
record SameNumber (m n : ℕ) (x y : List ℕ) : Type 0 where
  number : m ≡ n
  rest : x ≡ y

same_number : (m n : ℕ) (x y : List ℕ) → m < 2 ^ 64 → n < 2 ^ 64 → var_uint m ++ x ≡ var_uint n ++ y → SameNumber m n x y
same_number m n x y m_fits n_fits e =
    let both = sym (var_uint_again m x m_fits) ∙ ap var_uint_at e ∙ var_uint_again n y n_fits in
    let pair : (m, x) ≡ (n, y) = ok_is {E = OerError} (m, x) (n, y) both in
    record { number = ap (λ (p : ℕ × List ℕ). p.0) pair; rest = ap (λ (p : ℕ × List ℕ). p.1) pair }

-- frames have one text
frames_bytes : List Raw → List ℕ
frames_bytes [] = []
frames_bytes (r ∷ rs) = r.type ∷ (octets r.contents ++ frames_bytes rs)

one_text : (raws : List Raw) (text : List ℕ) → AreFrames raws text → text ≡ frames_bytes raws
unfolding frames_bytes
one_text raws text no_frame = refl
one_text raws text (next_frame r rs more small short are) = ap (λ (z : List ℕ). r.type ∷ (octets r.contents ++ z)) (one_text rs more are)

nothing_more : (a more : List ℕ) → a ++ more ≡ a → more ≡ []
nothing_more a [] e = refl
nothing_more a (x ∷ more) e = absurd (omega (arith, length-append a (x ∷ more), ap length e))

same_frames : (fp fq : List Raw) (tp tq more : List ℕ) → AreFrames fp tp → AreFrames fq tq → length fp ≡ length fq → tp ++ more ≡ tq ++ [] → more ≡ []
same_frames fp fq tp tq more p_are q_are count e =
    let both = sym (raws_again fp tp more p_are) ∙ ap (raws_at (length fp)) e ∙ ap (λ (n : ℕ). raws_at n (tq ++ [])) count ∙ raws_again fq tq [] q_are in
    let frames : fp ≡ fq = ok_is {E = OerError} fp fq both in
    let text : tq ≡ tp = one_text fq tq q_are ∙ ap frames_bytes (sym frames) ∙ sym (one_text fp tp p_are) in
    nothing_more tp more (e ∙ append-nil tq ∙ text)

tails_are : (v w j k : ℕ) (x y : List ℕ) → v ∷ j ∷ x ≡ w ∷ k ∷ y → x ≡ y
tails_are v w j k x y e = cc

abbrev numbers : ℕ → ℕ → ℕ → List ℕ → List ℕ
numbers s a n z = var_uint s ++ (var_uint a ++ (var_uint n ++ z))

numbers-append : (s a n : ℕ) (z more : List ℕ) → numbers s a n z ++ more ≡ numbers s a n (z ++ more)
numbers-append s a n z more = simp append_assoc

pub none_begins : NoneBegins
none_begins bytes more p q p_whole q_whole =
    let a = p_whole.0 in
    let b = q_whole.0 in
    let a_parts : bytes ≡ 1 ∷ p.kind ∷ numbers p.sequence p.amount (length a.frames) a.text =
    a.parts ∙ ap (λ (z : List ℕ). 1 ∷ p.kind ∷ numbers p.sequence p.amount (length a.frames) (a.text ++ z)) p_whole.1 ∙ ap (λ (z : List ℕ). 1 ∷ p.kind ∷ numbers p.sequence p.amount (length a.frames) z) (append-nil a.text) in
    let b_parts : bytes ++ more ≡ 1 ∷ q.kind ∷ numbers q.sequence q.amount (length b.frames) (b.text ++ []) =
    b.parts ∙ ap (λ (z : List ℕ). 1 ∷ q.kind ∷ numbers q.sequence q.amount (length b.frames) (b.text ++ z)) q_whole.1 in
    let joined : 1 ∷ p.kind ∷ (numbers p.sequence p.amount (length a.frames) a.text ++ more) ≡ 1 ∷ q.kind ∷ numbers q.sequence q.amount (length b.frames) (b.text ++ []) =
    sym (ap (λ (z : List ℕ). z ++ more) a_parts) ∙ b_parts in
    let tails : numbers p.sequence p.amount (length a.frames) a.text ++ more ≡ numbers q.sequence q.amount (length b.frames) (b.text ++ []) = tails_are _ _ _ _ _ _ joined in
    let s = same_number p.sequence q.sequence _ _ a.sequence_fits b.sequence_fits (sym (numbers-append p.sequence p.amount (length a.frames) a.text more) ∙ tails) in
    let m = same_number p.amount q.amount _ _ a.amount_fits b.amount_fits s.rest in
    let c = same_number (length a.frames) (length b.frames) _ _ a.count_fits b.count_fits m.rest in
    same_frames a.frames b.frames a.text b.text more a.frames_are b.frames_are c.number c.rest
