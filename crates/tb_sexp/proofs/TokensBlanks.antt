-- Whitespace and comments: what is passed is blank, and what is blank is passed.
use Rattle.std.proofs.Common.{◌≡◌, ℕ, suc, Bool, true, false, cond, not, List, [], ◌∷◌, ◌++◌, length, take, drop, refl, sym, ap, ◌∙◌, subst, ⊎_elim, inl, inr, ◌+◌, ◌⊎◌, arith, append_assoc, append-nil, length-append, drop_of_length-le}
use Rattle.std.specs.Prelude.{◌==◌}
use Rattle.std.specs.List.{list_all}
use Rattle.std.proofs.lemmas.Bool.{eqb-true, eqb-false, ne_eqb, and_parts, and_from, cond_both, cond-true, cond-false, not_from_false}
use Rattle.tb_sexp.specs.Blanks.{IsLine, Blank, nothing, whitespace, comment, BlankEnd, closed, open_comment, IsNoBlank}
use Rattle.tb_sexp.specs.Bytes.{is_whitespace}
use Rattle.tb_sexp.specs.calls.Scanning.{blanks_in, blanks}
use Rattle.tb_sexp.proofs.TokensBytes.{whitespace_of}

-- the rest of a comment, and what stands behind it
record Commented (P : List ℕ → Type 0) (bs : List ℕ) : Type 0 where
  line : List ℕ
  rest : List ℕ
  one_line : IsLine line
  behind : P rest
  whole : bs ≡ line ++ 10 ∷ rest

-- what is blank, in a comment or outside
abbrev BlankIn : Bool → List ℕ → Type 0
BlankIn true bs = Commented Blank bs
BlankIn false bs = Blank bs

no_newline : (b : ℕ) (bs : List ℕ) → (b == 10) ≡ false → IsLine bs → IsLine (b ∷ bs)
no_newline b bs e h = and_from (not (b == 10)) (list_all (λ c. not (c == 10)) bs) (not_from_false (b == 10) e) h

ended : (P : List ℕ → Type 0) (b : ℕ) (bs : List ℕ) → (b == 10) ≡ true → P bs → Commented P (b ∷ bs)
ended P b bs e h = record { line = []; rest = bs; one_line = refl; behind = h; whole = ap (λ n. n ∷ bs) (eqb-true b 10 e) }

longer : (P : List ℕ → Type 0) (b : ℕ) (bs : List ℕ) → (b == 10) ≡ false → Commented P bs → Commented P (b ∷ bs)
longer P b bs e h = record {
  line = b ∷ h.line;
  rest = h.rest;
  one_line = no_newline b h.line e h.one_line;
  behind = h.behind;
  whole = ap (λ r. b ∷ r) h.whole;
}

-- a byte of a comment
in_comment : (b : ℕ) (bs : List ℕ) → BlankIn (not (b == 10)) bs → Commented Blank (b ∷ bs)
in_comment b bs h = ends (b == 10) refl h
  where
    ends : (t : Bool) → (b == 10) ≡ t → BlankIn (not t) bs → Commented Blank (b ∷ bs)
    ends true e h = ended Blank b bs e h
    ends false e h = longer Blank b bs e h

-- a semicolon begins a comment
begun : (b : ℕ) (bs : List ℕ) → (b == 59) ≡ true → BlankIn (not (b == 10)) bs → Blank (b ∷ bs)
begun b bs e h =
    let is : b ≡ 59 = eqb-true b 59 e in
    let c : Commented Blank bs = subst (λ n. BlankIn (not (n == 10)) bs) is h in
    subst Blank (ap (λ n. n ∷ (c.line ++ 10 ∷ c.rest)) (sym is) ∙ ap (λ r. b ∷ r) (sym c.whole)) (comment c.line c.one_line c.behind)

-- what was passed before the byte b
abbrev Passed : Bool → ℕ → List ℕ → ℕ → List ℕ → Type 0
Passed c n bs b rest = drop n bs ≡ b ∷ rest → BlankIn c (take n bs) × IsNoBlank b

stops : (x : ℕ) (xs : List ℕ) (b : ℕ) (rest : List ℕ) → (x == 59) ≡ false → is_whitespace x ≡ false → Passed false 0 (x ∷ xs) b rest
stops x xs b rest other e h =
    let is : x ≡ b = cc in (nothing, subst IsNoBlank is (e, eqb-false x 59 other))

passes : (c : Bool) (bs : List ℕ) (b : ℕ) (rest : List ℕ) → Passed c (blanks_in c bs) bs b rest
passes c [] b rest = λ h. cc
passes true (x ∷ xs) b rest = λ h.
    let behind = passes (not (x == 10)) xs b rest h in (in_comment x (take (blanks_in (not (x == 10)) xs) xs) behind.0, behind.1)
passes false (x ∷ xs) b rest =
    cond_both (x == 59) (suc (blanks_in (not (x == 10)) xs)) (cond (is_whitespace x) (suc (blanks_in false xs)) 0) (λ n. Passed false n (x ∷ xs) b rest)
    (λ e h. let behind = passes (not (x == 10)) xs b rest h in (begun x (take (blanks_in (not (x == 10)) xs) xs) e behind.0, behind.1))
    (λ other. cond_both (is_whitespace x) (suc (blanks_in false xs)) 0 (λ n. Passed false n (x ∷ xs) b rest)
    (λ e h. let behind = passes false xs b rest h in (whitespace e behind.0, behind.1))
    (λ e. stops x xs b rest other e))

pub front_found : (bs rest : List ℕ) (b : ℕ) → drop (blanks bs) bs ≡ b ∷ rest → Blank (take (blanks bs) bs) × IsNoBlank b
front_found bs rest b h = passes false bs b rest h

-- what may stand to the end of a text, in a comment or outside
abbrev EndIn : Bool → List ℕ → Type 0
EndIn true bs = IsLine bs ⊎ Commented BlankEnd bs
EndIn false bs = BlankEnd bs

in_last : (b : ℕ) (bs : List ℕ) → EndIn (not (b == 10)) bs → EndIn true (b ∷ bs)
in_last b bs h = ends (b == 10) refl h
  where
    ends : (t : Bool) → (b == 10) ≡ t → EndIn (not t) bs → EndIn true (b ∷ bs)
    ends true e h = inr (ended BlankEnd b bs e h)
    ends false e h = ⊎_elim (λ line. inl (no_newline b bs e line)) (λ c. inr (longer BlankEnd b bs e c)) h

whitespace_before : (b : ℕ) {bs : List ℕ} → is_whitespace b ≡ true → BlankEnd bs → BlankEnd (b ∷ bs)
whitespace_before b e (closed h) = closed (whitespace e h)
whitespace_before b e (open_comment line h l) = open_comment line (whitespace e h) l

comment_before : (line : List ℕ) {bs : List ℕ} → IsLine line → BlankEnd bs → BlankEnd (59 ∷ (line ++ 10 ∷ bs))
comment_before line l (closed h) = closed (comment line l h)
comment_before line l (open_comment last {bs} h e) =
    subst (λ r. BlankEnd (59 ∷ r)) (append_assoc line (10 ∷ bs) (59 ∷ last)) (open_comment last (comment line l h) e)

last_begun : (bs : List ℕ) → EndIn true bs → BlankEnd (59 ∷ bs)
last_begun bs h = ⊎_elim (λ line. open_comment bs nothing line) (λ c. subst (λ r. BlankEnd (59 ∷ r)) (sym c.whole) (comment_before c.line c.one_line c.behind)) h

last_semicolon : (b : ℕ) (bs : List ℕ) → (b == 59) ≡ true → EndIn (not (b == 10)) bs → BlankEnd (b ∷ bs)
last_semicolon b bs e h =
    let is : b ≡ 59 = eqb-true b 59 e in
    subst (λ n. BlankEnd (n ∷ bs)) (sym is) (last_begun bs (subst (λ n. EndIn (not (n == 10)) bs) is h))

abbrev Ends : Bool → ℕ → List ℕ → Type 0
Ends c n bs = drop n bs ≡ [] → EndIn c bs

no_end : (x : ℕ) (xs : List ℕ) → Ends false 0 (x ∷ xs)
no_end x xs h = cc

ends : (c : Bool) (bs : List ℕ) → Ends c (blanks_in c bs) bs
ends true [] = λ h. inl refl
ends false [] = λ h. closed nothing
ends true (x ∷ xs) = λ h. in_last x xs (ends (not (x == 10)) xs h)
ends false (x ∷ xs) =
    cond_both (x == 59) (suc (blanks_in (not (x == 10)) xs)) (cond (is_whitespace x) (suc (blanks_in false xs)) 0) (λ n. Ends false n (x ∷ xs))
    (λ e h. last_semicolon x xs e (ends (not (x == 10)) xs h))
    (λ other. cond_both (is_whitespace x) (suc (blanks_in false xs)) 0 (λ n. Ends false n (x ∷ xs))
    (λ e h. whitespace_before x e (ends false xs h))
    (λ e. no_end x xs))

pub end_found : (bs : List ℕ) → drop (blanks bs) bs ≡ [] → BlankEnd bs
end_found bs h = ends false bs h

-- what is blank is passed, whatever follows
line_passed : (line rest : List ℕ) → IsLine line → blanks_in true (line ++ 10 ∷ rest) ≡ length line + suc (blanks_in false rest)
line_passed [] rest h = omega arith
line_passed (b ∷ bs) rest h =
    let parts = and_parts (not (b == 10)) (list_all (λ c. not (c == 10)) bs) h in
    let hyp = line_passed bs rest parts.1 in
    rw parts.0 (omega arith)

line_whole : (line : List ℕ) → IsLine line → blanks_in true line ≡ length line
line_whole [] h = refl
line_whole (b ∷ bs) h =
    let parts = and_parts (not (b == 10)) (list_all (λ c. not (c == 10)) bs) h in
    rw parts.0 (ap suc (line_whole bs parts.1))

no_semicolon : (b : ℕ) → is_whitespace b ≡ true → (b == 59) ≡ false
no_semicolon b e = whitespace_of (λ c. (c == 59) ≡ false) (refl, (refl, (refl, (refl, (refl, tt))))) b e

blank_passed : {front : List ℕ} → Blank front → (rest : List ℕ) → blanks_in false (front ++ rest) ≡ length front + blanks_in false rest
blank_passed nothing rest = omega arith
blank_passed (whitespace {b} {bs} e h) rest =
    let hyp = blank_passed h rest in
    cond-false (b == 59) _ _ (no_semicolon b e) ∙ (cond-true (is_whitespace b) (suc (blanks_in false (bs ++ rest))) 0 e ∙ omega arith)
blank_passed (comment line {bs} l h) rest =
    let hyp = blank_passed h rest in
    let passed = line_passed line (bs ++ rest) l in
    let same : blanks_in true ((line ++ 10 ∷ bs) ++ rest) ≡ blanks_in true (line ++ 10 ∷ (bs ++ rest)) = ap (λ r. blanks_in true r) (append_assoc line (10 ∷ bs) rest) in
    let size = length-append line (10 ∷ bs) in
    omega arith

pub front_only : (front rest : List ℕ) (b : ℕ) → Blank front → IsNoBlank b → blanks (front ++ b ∷ rest) ≡ length front
front_only front rest b h no_blank =
    let passed = blank_passed h (b ∷ rest) in
    let here : blanks_in false (b ∷ rest) ≡ 0 = cond-false (b == 59) _ _ (ne_eqb b 59 no_blank.1) ∙ cond-false (is_whitespace b) (suc (blanks_in false rest)) 0 no_blank.0 in
    omega arith

whole_passed : {bs : List ℕ} → BlankEnd bs → blanks bs ≡ length bs
whole_passed (closed {bs} h) =
    let passed = blank_passed h [] in
    let same : blanks_in false (bs ++ []) ≡ blanks_in false bs = ap (λ r. blanks_in false r) (append-nil bs) in
    omega arith
whole_passed (open_comment line {bs} h l) =
    let passed = blank_passed h (59 ∷ line) in
    let whole = line_whole line l in
    let size = length-append bs (59 ∷ line) in
    omega arith

pub end_only : (bs : List ℕ) → BlankEnd bs → (blanks bs ≡ length bs) × (drop (blanks bs) bs ≡ [])
end_only bs h = let e = whole_passed h in (e, drop_of_length-le bs {i = blanks bs} (omega arith))
