-- Sets of variables that grow and shrink with lists.
use Rattle.std.proofs.Common.{◌≡◌, refl, sym, ap, ◌∙◌, ℕ, suc, ◌<◌, ◌≤◌, ◌==◌, ◌||◌, ◌&&◌, not, Bool, true, false, cond, List, [], ◌∷◌, ◌++◌, length, map, drop, get_or, drop_of_length-le, eqb-true, Result, Ok, Err, OnOk, IfOk}
use Rattle.std.proofs.Math.Seq.{drop-cons}
use Rattle.std.proofs.lemmas.Map.Views.{any-filter_same}
use Rattle.std.proofs.lemmas.List.Folds.{list_any-append}
use Rattle.tb_core.specs.FreeVariables.{is_in, without, of_lambdas}
use Rattle.tb_ir.specs.declared.anf.Atom.{Atom}
use Rattle.tb_ir.specs.AnfMachine.{free_block, free_of_atom, free_of_atoms, free_op}
use Rattle.tb_ir.specs.AnfTree.{Operand, Block, Bind, CloseAll, Op, Branch}
use Rattle.tb_ir.specs.AnfPlain.{view_atom}

pub in-append : (xs ys : List ℕ) (y : ℕ) → is_in (xs ++ ys) y ≡ (is_in xs y || is_in ys y)
in-append xs ys y = list_any-append (λ x. x == y) xs ys

-- what holds where a call succeeds gives what holds otherwise
pub on-ok : {X E : Type 0} (P Q : Type 0) (r : Result X E) → (P → Q) → OnOk r P → OnOk r Q
on-ok P Q (Ok x) h k = h k
on-ok P Q (Err e) h k = tt

pub if-ok : {X E : Type 0} (P Q : X → Type 0) (r : Result X E) → ((x : X) → P x → Q x) → IfOk r P → IfOk r Q
if-ok P Q (Ok x) h k = h x k
if-ok P Q (Err e) h k = tt

pub more-step : (us vs : List ℕ) (x : ℕ) (o n b : Bool) → n ≡ (is_in us x || o) → (is_in (us ++ vs) x || o) ≡ b → (is_in vs x || n) ≡ b
more-step us vs x o n b e h =
    ap (λ m. is_in vs x || m) e ∙ by_test (is_in us x) (is_in vs x) ∙ ap (λ m. m || o) (sym (in-append us vs x)) ∙ h
  where
    by_test : (p q : Bool) → (q || (p || o)) ≡ ((p || q) || o)
    by_test true true = refl
    by_test true false = refl
    by_test false true = refl
    by_test false false = refl

pub add-step : (xs : List ℕ) (i j x : ℕ) (o n b : Bool) → i < length xs → j ≡ suc i → n ≡ cond (get_or xs i 0 == x) true o →
    (is_in (drop i xs) x || o) ≡ b → (is_in (drop j xs) x || n) ≡ b
add-step xs i j x o n b lt e q h =
    more-step (get_or xs i 0 ∷ []) (drop j xs) x o n b (q ∙ by_test (get_or xs i 0 == x))
    (ap (λ k. is_in (get_or xs i 0 ∷ drop k xs) x || o) e ∙ ap (λ ys. is_in ys x || o) (sym (drop-cons xs i 0 lt)) ∙ h)
  where
    by_test : (p : Bool) → cond p true o ≡ ((p || false) || o)
    by_test true = refl
    by_test false = refl

pub remove-step : (xs : List ℕ) (i j x : ℕ) (o n b : Bool) → i < length xs → j ≡ suc i → n ≡ cond (get_or xs i 0 == x) false o →
    (not (is_in (drop i xs) x) && o) ≡ b → (not (is_in (drop j xs) x) && n) ≡ b
remove-step xs i j x o n b lt e q h =
    ap (λ m. not (is_in (drop j xs) x) && m) q ∙ ap (λ k. not (is_in (drop k xs) x) && cond (get_or xs i 0 == x) false o) e
    ∙ by_test (get_or xs i 0 == x) (is_in (drop (suc i) xs) x) ∙ ap (λ ys. not (is_in ys x) && o) (sym (drop-cons xs i 0 lt)) ∙ h
  where
    by_test : (p r : Bool) → (not r && cond p false o) ≡ (not (p || r) && o)
    by_test true true = refl
    by_test true false = refl
    by_test false true = refl
    by_test false false = refl

pub add-done : (xs : List ℕ) (i x : ℕ) (o b : Bool) → length xs ≤ i → (is_in (drop i xs) x || o) ≡ b → o ≡ b
add-done xs i x o b le h = ap (λ ys. is_in ys x || o) (sym (drop_of_length-le xs le)) ∙ h

pub remove-done : (xs : List ℕ) (i x : ℕ) (o b : Bool) → length xs ≤ i → (not (is_in (drop i xs) x) && o) ≡ b → o ≡ b
remove-done xs i x o b le h = ap (λ ys. not (is_in ys x) && o) (sym (drop_of_length-le xs le)) ∙ h

pub atoms-step : (ds : List Atom) (i j x : ℕ) (d : Atom) (o n b : Bool) → i < length ds → j ≡ suc i →
    n ≡ (is_in (free_of_atom (view_atom (get_or ds i d))) x || o) → (is_in (free_of_atoms (map view_atom (drop i ds))) x || o) ≡ b →
    (is_in (free_of_atoms (map view_atom (drop j ds))) x || n) ≡ b
atoms-step ds i j x d o n b lt e r h =
    let a = get_or ds i d in
    more-step (free_of_atom (view_atom a)) (free_of_atoms (map view_atom (drop j ds))) x o n b r
    (ap (λ k. is_in (free_of_atom (view_atom a) ++ free_of_atoms (map view_atom (drop k ds))) x || o) e
    ∙ ap (λ es. is_in (free_of_atoms (map view_atom es)) x || o) (sym (drop-cons ds i d lt)) ∙ h)

pub atoms-done : (ds : List Atom) (i x : ℕ) (o b : Bool) → length ds ≤ i → (is_in (free_of_atoms (map view_atom (drop i ds))) x || o) ≡ b → o ≡ b
atoms-done ds i x o b le h = ap (λ es. is_in (free_of_atoms (map view_atom es)) x || o) (sym (drop_of_length-le ds le)) ∙ h

pub lambdas-step : (captured : ℕ → List ℕ) (ls : List ℕ) (i j x : ℕ) (o n b : Bool) → i < length ls → j ≡ suc i →
    n ≡ (is_in (captured (get_or ls i 0)) x || o) → (is_in (of_lambdas captured (drop i ls)) x || o) ≡ b →
    (is_in (of_lambdas captured (drop j ls)) x || n) ≡ b
lambdas-step captured ls i j x o n b lt e r h =
    more-step (captured (get_or ls i 0)) (of_lambdas captured (drop j ls)) x o n b r
    (ap (λ k. is_in (captured (get_or ls i 0) ++ of_lambdas captured (drop k ls)) x || o) e
    ∙ ap (λ ms. is_in (of_lambdas captured ms) x || o) (sym (drop-cons ls i 0 lt)) ∙ h)

pub lambdas-done : (captured : ℕ → List ℕ) (ls : List ℕ) (i x : ℕ) (o b : Bool) → length ls ≤ i →
    (is_in (of_lambdas captured (drop i ls)) x || o) ≡ b → o ≡ b
lambdas-done captured ls i x o b le h = ap (λ ms. is_in (of_lambdas captured ms) x || o) (sym (drop_of_length-le ls le)) ∙ h

-- what is left out of a list is not in it
pub in-without : (xs ys : List ℕ) (y : ℕ) → is_in (without xs ys) y ≡ (not (is_in xs y) && is_in ys y)
in-without xs ys y = any-filter_same (λ x. x == y) (λ x. not (is_in xs x)) (not (is_in xs y)) (λ x e. ap (λ z. not (is_in xs z)) (eqb-true x y e)) ys

-- the variables of blocks and of branches, by their parts
pub bind-free : (captured : ℕ → List ℕ) (y : ℕ) (op : Op) (b : Block) (x : ℕ) (n s t : Bool) → n ≡ (is_in (free_op captured op) x || s) →
    s ≡ (not (is_in (y ∷ []) x) && t) → t ≡ is_in (free_block captured b) x → n ≡ is_in (free_block captured (Bind y op b)) x
bind-free captured y op b x n s t e f g =
    e ∙ ap (λ m. is_in (free_op captured op) x || m) (f ∙ ap (λ m. not (is_in (y ∷ []) x) && m) g ∙ sym (in-without (y ∷ []) (free_block captured b) x))
    ∙ sym (in-append (free_op captured op) (without (y ∷ []) (free_block captured b)) x)

pub group-free : (captured : ℕ → List ℕ) (ys ls : List ℕ) (b : Block) (x : ℕ) (n s t : Bool) → n ≡ (not (is_in ys x) && s) →
    s ≡ (is_in (of_lambdas captured ls) x || t) → t ≡ is_in (free_block captured b) x → n ≡ is_in (free_block captured (CloseAll ys ls b)) x
group-free captured ys ls b x n s t e f g =
    e ∙ ap (λ m. not (is_in ys x) && m) (f ∙ ap (λ m. is_in (of_lambdas captured ls) x || m) g ∙ sym (in-append (of_lambdas captured ls) (free_block captured b) x))
    ∙ sym (in-without ys (of_lambdas captured ls ++ free_block captured b) x)

pub branch-free : (captured : ℕ → List ℕ) (a : Operand) (b d : Block) (bs ds : List ℕ) (x : ℕ) (n s t o : Bool) → n ≡ (is_in (free_of_atom a) x || s) →
    s ≡ (is_in bs x || t) → t ≡ (is_in ds x || o) → is_in bs x ≡ is_in (free_block captured b) x → is_in ds x ≡ is_in (free_block captured d) x →
    n ≡ (is_in (free_op captured (Branch a b d)) x || o)
branch-free captured a b d bs ds x n s t o e f g p q =
    e ∙ ap (λ m. is_in (free_of_atom a) x || m) (f ∙ ap (λ m. is_in bs x || m) g ∙ ap (λ m. m || (is_in ds x || o)) p ∙ ap (λ m. is_in (free_block captured b) x || (m || o)) q)
    ∙ by_test (is_in (free_of_atom a) x) (is_in (free_block captured b) x) (is_in (free_block captured d) x)
    ∙ ap (λ m. (is_in (free_of_atom a) x || m) || o) (sym (in-append (free_block captured b) (free_block captured d) x))
    ∙ ap (λ m. m || o) (sym (in-append (free_of_atom a) (free_block captured b ++ free_block captured d) x))
  where
    by_test : (u v w : Bool) → (u || (v || (w || o))) ≡ ((u || (v || w)) || o)
    by_test true v w = refl
    by_test false true w = refl
    by_test false false w = refl
