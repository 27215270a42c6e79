-- Rounds come to a set that no round changes.
use Rattle.std.proofs.Common.{◌≡◌, refl, sym, ap, ◌∙◌, ℕ, zero, suc, ◌+◌, ◌-◌, ◌<◌, ◌≤◌, arith, Bool, true, false, cond, List, [], ◌∷◌, length, filter, ◌==◌, eqb-true, ◌++◌, map, drop, get_or, drop-cons, add-one, append_assoc}
use Rattle.std.proofs.lemmas.Bool.{eqb-false}
use Rattle.tb_core.specs.Tree.{ProgramTree}
use Rattle.tb_core.specs.Lifting.{Lifted}
use Rattle.tb_liftable.specs.Procedures.{Procedures, procedures, candidates}
use Rattle.tb_liftable.specs.Liftable.{fits, round, rounds, settled, lines, liftable}

fewer_by : (x : ℕ) (xs kept : List ℕ) → length kept ≤ length xs → (b : Bool) → length (cond b (x ∷ kept) kept) ≤ suc (length xs)
fewer_by x xs kept h true = omega arith
fewer_by x xs kept h false = omega arith

pub fewer : (p : ℕ → Bool) (xs : List ℕ) → length (filter p xs) ≤ length xs
fewer p [] = omega arith
fewer p (x ∷ xs) = fewer_by x xs (filter p xs) (fewer p xs) (p x)

whole_by : (x : ℕ) (xs kept : List ℕ) → length kept ≤ length xs → (length kept ≡ length xs → kept ≡ xs) → (b : Bool) → length (cond b (x ∷ kept) kept) ≡ suc (length xs) → cond b (x ∷ kept) kept ≡ x ∷ xs
whole_by x xs kept le h true e = ap (λ v. x ∷ v) (h (omega arith))
whole_by x xs kept le h false e = absurd (omega arith)

-- a filter that keeps as many keeps all
pub whole : (p : ℕ → Bool) (xs : List ℕ) → length (filter p xs) ≡ length xs → filter p xs ≡ xs
whole p [] e = refl
whole p (x ∷ xs) e = whole_by x xs (filter p xs) (fewer p xs) (whole p xs) (p x) e

pub still : (g : Procedures) (set : List ℕ) → round g set ≡ set → (n : ℕ) → rounds g n set ≡ set
still g set e zero = refl
still g set e (suc n) = ap (rounds g n) e ∙ still g set e n

pub round-is : (g : Procedures) (set next : List ℕ) → next ≡ filter (fits g set) set → next ≡ round g set
unfolding round
round-is g set next e = e

pub stops : (g : Procedures) (set next all : List ℕ) (n : ℕ) → next ≡ filter (fits g set) set → length next ≡ length set → rounds g n set ≡ all → set ≡ all
stops g set next all n e l r =
    let same : next ≡ set = e ∙ whole (fits g set) set (sym (ap length e) ∙ l) in
    sym (still g set (sym (round-is g set next e) ∙ same) n) ∙ r

pub goes : (g : Procedures) (set next all : List ℕ) (at count : ℕ) → next ≡ filter (fits g set) set → at < count → rounds g (count - at) set ≡ all → rounds g (count - (at + 1)) next ≡ all
goes g set next all at count e lt r =
    let n : count - at ≡ suc (count - (at + 1)) = omega arith in
    ap (rounds g (count - (at + 1))) (round-is g set next e) ∙ (ap (λ k. rounds g k set) (sym n) ∙ r)

pub over : (g : Procedures) (set all : List ℕ) (at count : ℕ) → count ≤ at → rounds g (count - at) set ≡ all → set ≡ all
over g set all at count le r =
    let n : 0 ≡ count - at = omega arith in
    ap (λ k. rounds g k set) n ∙ r

pub begun : (g : Procedures) (set : List ℕ) (count : ℕ) → rounds g (count - 0) set ≡ rounds g count set
begun g set count = let n : count - 0 ≡ count = omega arith in ap (λ k. rounds g k set) n

-- a round of a settled set changes nothing
round-kept : (g : Procedures) (set : List ℕ) → length (round g set) ≡ length set → round g set ≡ set
unfolding round
round-kept g set e = whole (fits g set) set e

round-fewer : (g : Procedures) (set : List ℕ) → length (round g set) ≤ length set
unfolding round
round-fewer g set = fewer (fits g set) set

nothing : (xs : List ℕ) → length xs ≤ 0 → [] ≡ xs
nothing [] le = refl
nothing (x ∷ xs) le = absurd (omega arith)

settle_by : (g : Procedures) (n : ℕ) (set : List ℕ) → length set ≤ suc n → (length (round g set) ≤ n → round g (rounds g n (round g set)) ≡ rounds g n (round g set)) → (b : Bool) → (length (round g set) == length set) ≡ b → round g (rounds g n (round g set)) ≡ rounds g n (round g set)
settle_by g n set le h true e =
    let k = round-kept g set (eqb-true (length (round g set)) (length set) e) in
    let s : rounds g n (round g set) ≡ set = ap (rounds g n) k ∙ still g set k n in
    ap (round g) s ∙ (k ∙ sym s)
settle_by g n set le h false e =
    let q : length (round g set) ≡ length set → ⊥ = eqb-false (length (round g set)) (length set) e in
    let f = round-fewer g set in
    h (omega arith)

pub settles : (g : Procedures) (n : ℕ) (set : List ℕ) → length set ≤ n → round g (rounds g n set) ≡ rounds g n set
settles g zero set le = round-kept g set (let h = round-fewer g set in omega (arith, ap length (nothing set le)))
settles g (suc n) set le = settle_by g n set le (settles g n (round g set)) (length (round g set) == length set) refl

pub settled_stays : (g : Procedures) (set : List ℕ) → round g (settled g set) ≡ settled g set
settled_stays g set = settles g (length set) set (omega arith)

pub liftable_is : (g : Procedures) (p : ProgramTree) (known set : List ℕ) (out : List Lifted) → g ≡ procedures p → known ≡ candidates p → set ≡ settled g known → out ≡ lines g set → out ≡ liftable p
liftable_is g p known set out e k s o =
    let settled_same : settled g known ≡ settled (procedures p) (candidates p) = ap (λ h. settled h known) e ∙ ap (settled (procedures p)) k in
    o ∙ (ap (λ h. lines h set) e ∙ ap (lines (procedures p)) (s ∙ settled_same))

-- a step of the loop that puts the lines
pub line-put : (f : ℕ → Lifted) (xs : List ℕ) (i : ℕ) (old new all : List Lifted) (line : Lifted) → i < length xs → line ≡ f (get_or xs i 0) → new ≡ old ++ line ∷ [] → old ++ map f (drop i xs) ≡ all → new ++ map f (drop (i + 1) xs) ≡ all
line-put f xs i old new all line lt e n h =
    let rest = map f (drop (i + 1) xs) in
    let left : map f (drop i xs) ≡ f (get_or xs i 0) ∷ rest = ap (map f) (drop-cons xs i 0 lt ∙ ap (λ k. get_or xs i 0 ∷ drop k xs) (sym (add-one i))) in
    ap (λ zs. zs ++ rest) (n ∙ ap (λ v. old ++ v ∷ []) e)
    ∙ (append_assoc old (f (get_or xs i 0) ∷ []) rest ∙ (ap (λ zs. old ++ zs) (sym left) ∙ h))
