-- Lists of locations that differ.
use Rattle.std.proofs.Common.{◌≡◌, ◌≢◌, ℕ, zero, suc, ◌<◌, List, [], ◌∷◌, ◌++◌, length, get_or, refl, sym, ap, subst, arith, ◌∙◌, append_assoc}
use Rattle.std.specs.Prelude.{AllPairs}
use Rattle.tb_moves.specs.declared.loc.Loc.{Loc}

-- the location is not in the list
abbrev pub NotIn : Loc → List Loc → Type 0
NotIn l [] = Unit {0}
NotIn l (x ∷ xs) = (l ≢ x) × NotIn l xs

-- no location is twice in the list
abbrev pub Distinct : List Loc → Type 0
Distinct [] = Unit {0}
Distinct (x ∷ xs) = NotIn x xs × Distinct xs

-- the targets of moves
abbrev pub targets : List (Loc × Loc) → List Loc
targets [] = []
targets (m ∷ ms) = m.0 ∷ targets ms

NotIn-middle : (l : Loc) (xs ys : List Loc) (y : Loc) → NotIn l (xs ++ y ∷ ys) → (l ≢ y) × NotIn l (xs ++ ys)
NotIn-middle l [] ys y h = h
NotIn-middle l (x ∷ xs) ys y h = let k = NotIn-middle l xs ys y h.1 in (k.0, (h.0, k.1))

NotIn-insert : (l : Loc) (xs ys : List Loc) (y : Loc) → l ≢ y → NotIn l (xs ++ ys) → NotIn l (xs ++ y ∷ ys)
NotIn-insert l [] ys y n h = (n, h)
NotIn-insert l (x ∷ xs) ys y n h = (h.0, NotIn-insert l xs ys y n h.1)

Distinct-middle : (xs ys : List Loc) (y : Loc) → Distinct (xs ++ y ∷ ys) → NotIn y (xs ++ ys) × Distinct (xs ++ ys)
Distinct-middle [] ys y h = h
Distinct-middle (x ∷ xs) ys y h =
    let n = NotIn-middle x xs ys y h.0 in
    let d = Distinct-middle xs ys y h.1 in
    (((λ e. n.0 (sym e)), d.0), (n.1, d.1))

targets-append : (xs ys : List (Loc × Loc)) → targets (xs ++ ys) ≡ targets xs ++ targets ys
targets-append [] ys = refl
targets-append (x ∷ xs) ys = ap (λ t. x.0 ∷ t) (targets-append xs ys)

split : (path : List Loc) (front back : List (Loc × Loc)) → path ++ targets (front ++ back) ≡ (path ++ targets front) ++ targets back
split path front back = ap (λ t. path ++ t) (targets-append front back) ∙ sym (append_assoc path (targets front) (targets back))

-- a pending move comes to the front
pub Distinct-pull : (path : List Loc) (front back : List (Loc × Loc)) (m : Loc × Loc) → Distinct (path ++ targets (front ++ m ∷ back)) → Distinct (m.0 ∷ path ++ targets (front ++ back))
Distinct-pull path front back m h =
    let d : Distinct ((path ++ targets front) ++ m.0 ∷ targets back) = subst Distinct (split path front (m ∷ back)) h in
    let r = Distinct-middle (path ++ targets front) (targets back) m.0 d in
    rw (split path front back) r

pub NotIn-pull : (l : Loc) (path : List Loc) (front back : List (Loc × Loc)) (m : Loc × Loc) → NotIn l (path ++ targets (front ++ m ∷ back)) → NotIn l (m.0 ∷ path ++ targets (front ++ back))
NotIn-pull l path front back m h =
    let d : NotIn l ((path ++ targets front) ++ m.0 ∷ targets back) = subst (NotIn l) (split path front (m ∷ back)) h in
    let r = NotIn-middle l (path ++ targets front) (targets back) m.0 d in
    rw (split path front back) r

pub NotIn-put_back : (l : Loc) (path : List Loc) (front back : List (Loc × Loc)) (m : Loc × Loc) → NotIn l (m.0 ∷ path ++ targets (front ++ back)) → NotIn l (path ++ targets (front ++ m ∷ back))
NotIn-put_back l path front back m h =
    let d : NotIn l ((path ++ targets front) ++ targets back) = subst (NotIn l) (split path front back) h.1 in
    rw (split path front (m ∷ back)) (NotIn-insert l (path ++ targets front) (targets back) m.0 h.0 d)

-- the same facts by index
pub NotIn-from : (l : Loc) (ms : List (Loc × Loc)) → ((k : ℕ) (d : Loc × Loc) → k < length ms → l ≢ (get_or ms k d).0) → NotIn l (targets ms)
NotIn-from l [] h = tt
NotIn-from l (m ∷ ms) h = (h 0 m (omega arith), NotIn-from l ms (λ k d p. h (suc k) d (omega arith)))

pub NotIn-at : (l : Loc) (ms : List (Loc × Loc)) → NotIn l (targets ms) → (k : ℕ) (d : Loc × Loc) → k < length ms → l ≢ (get_or ms k d).0
NotIn-at l [] h k d p = absurd (omega arith)
NotIn-at l (m ∷ ms) h zero d p = h.0
NotIn-at l (m ∷ ms) h (suc k) d p = NotIn-at l ms h.1 k d (omega arith)

pub Distinct-from : (ms : List (Loc × Loc)) → AllPairs (λ m n. m.0 ≢ n.0) ms → Distinct (targets ms)
Distinct-from [] h = tt
Distinct-from (m ∷ ms) h = (
  NotIn-from m.0 ms (λ k d p. h 0 (suc k) d (omega arith) (omega arith)),
  Distinct-from ms (λ i j d p q. h (suc i) (suc j) d (omega arith) (omega arith)),
)
