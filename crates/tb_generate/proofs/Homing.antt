-- The variables that blocks bind, and their origins.
use Rattle.std.proofs.Common.{◌≡◌, refl, sym, ap, ◌∙◌, ℕ, suc, ◌+◌, ◌<◌, ◌==◌, Bool, true, false, cond, arith, List, [], ◌∷◌, ◌++◌, append_assoc, length, drop, get_or, Option, Some, None, eqb-true}
use Rattle.std.proofs.Math.Seq.{drop-cons}
use Rattle.tb_ir.specs.AnfTree.{Block, Bind, CloseAll, Tail, Op, Atom, Global, SetGlobal, DefGlobal, PrimUse, NewCell, CellGet, CellSet, Close, Call, Direct, Apply, Branch}
use Rattle.tb_ir.specs.AnfRules.{blocks, blocks_in, of_each, plain_binders}
use Rattle.tb_codegen.specs.Homes.{index_of, made_from, origin}
use Rattle.tb_generate.specs.calls.Bodies.{or_else}
use Rattle.tb_generate.specs.calls.Homes.{or_found, origin_found, own_binder}
use Rattle.tb_generate.proofs.Views.{viewing}

pub each-append : (bs ds : List Block) → of_each plain_binders (bs ++ ds) ≡ of_each plain_binders bs ++ of_each plain_binders ds
each-append [] ds = refl
each-append (b ∷ bs) ds = ap (λ k. plain_binders b ++ k) (each-append bs ds) ∙ sym (append_assoc (plain_binders b) (of_each plain_binders bs) (of_each plain_binders ds))

pub own-is : (x : ℕ) (op : Op) (b : Block) → plain_binders (Bind x op b) ≡ own_binder x op
own-is x (Atom a) b = refl
own-is x (Global g p) b = refl
own-is x (SetGlobal g a p) b = refl
own-is x (DefGlobal g a) b = refl
own-is x (PrimUse q ds p) b = refl
own-is x (NewCell a) b = refl
own-is x (CellGet a p) b = refl
own-is x (CellSet a c) b = refl
own-is x (Close m) b = refl
own-is x (Call f ds p) b = refl
own-is x (Direct m ds) b = refl
own-is x (Apply f a p) b = refl
own-is x (Branch a c d) b = refl

pub ruleset homing = (viewing, each-append, own-is)

found_append : (bs ds : List Block) (x : ℕ) → origin_found (bs ++ ds) x ≡ or_found (origin_found bs x) (origin_found ds x)
found_append [] ds x = refl
found_append (Bind z op b ∷ bs) ds x = ap (cond (z == x) (Some (made_from z op))) (found_append bs ds x) ∙ by_test (z == x)
  where
    by_test : (c : Bool) → cond c (Some (made_from z op)) (or_found (origin_found bs x) (origin_found ds x)) ≡ or_found (cond c (Some (made_from z op)) (origin_found bs x)) (origin_found ds x)
    by_test true = refl
    by_test false = refl
found_append (CloseAll zs ls b ∷ bs) ds x = found_append bs ds x
found_append (Tail op ∷ bs) ds x = found_append bs ds x

found_assoc : (a b c : Option ℕ) → or_found (or_found a b) c ≡ or_found a (or_found b c)
found_assoc None b c = refl
found_assoc (Some n) b c = refl

pub two-found : (bs ds : List Block) (x : ℕ) (o s n : Option ℕ) → s ≡ or_found o (origin_found bs x) → n ≡ or_found s (origin_found ds x) →
    n ≡ or_found o (origin_found (bs ++ ds) x)
two-found bs ds x o s n e f =
    f ∙ ap (λ k. or_found k (origin_found ds x)) e ∙ found_assoc o (origin_found bs x) (origin_found ds x) ∙ ap (or_found o) (sym (found_append bs ds x))

pub bind-found : (y : ℕ) (op : Op) (b : Block) (x : ℕ) (o s t n : Option ℕ) → s ≡ or_found o (cond (y == x) (Some (made_from y op)) None) →
    t ≡ or_found s (origin_found (blocks_in op) x) → n ≡ or_found t (origin_found (blocks b) x) → n ≡ or_found o (origin_found (blocks (Bind y op b)) x)
bind-found y op b x o s t n e f g =
    two-found (blocks_in op) (blocks b) x s t n f g ∙ ap (λ k. or_found k (origin_found (blocks_in op ++ blocks b) x)) e
    ∙ found_assoc o _ _ ∙ ap (or_found o) (by_test (y == x))
  where
    by_test : (c : Bool) → or_found (cond c (Some (made_from y op)) None) (origin_found (blocks_in op ++ blocks b) x) ≡ cond c (Some (made_from y op)) (origin_found (blocks_in op ++ blocks b) x)
    by_test true = refl
    by_test false = refl

pub found-origin : (bs : List Block) (x : ℕ) → or_else (origin_found bs x) x ≡ origin bs x
found-origin [] x = refl
found-origin (Bind z op b ∷ bs) x = by_test (found-origin bs x) (z == x) refl
  where
    by_test : or_else (origin_found bs x) x ≡ origin bs x → (c : Bool) → (z == x) ≡ c → or_else (cond c (Some (made_from z op)) (origin_found bs x)) x ≡ cond c (made_from x op) (origin bs x)
    by_test r true q = ap (λ y. made_from y op) (eqb-true z x q)
    by_test r false q = r
found-origin (CloseAll zs ls b ∷ bs) x = found-origin bs x
found-origin (Tail op ∷ bs) x = found-origin bs x

-- the first place of a variable, one place earlier
pub place-step : (xs : List ℕ) (i j x : ℕ) (o n : Option ℕ) → i < length xs → j ≡ suc i → n ≡ cond (get_or xs i 0 == x) (Some i) o →
    or_else o (length xs) ≡ j + index_of (drop j xs) x → or_else n (length xs) ≡ i + index_of (drop i xs) x
place-step xs i j x o n lt e q h =
    ap (λ k. or_else k (length xs)) q ∙ by_test (get_or xs i 0 == x) ∙ ap (λ ys. i + index_of ys x) (sym (drop-cons xs i 0 lt))
  where
    by_test : (c : Bool) → or_else (cond c (Some i) o) (length xs) ≡ i + cond c 0 (suc (index_of (drop (suc i) xs) x))
    by_test true = omega arith
    by_test false =
        let k : or_else o (length xs) ≡ suc i + index_of (drop (suc i) xs) x = h ∙ ap (λ m. m + index_of (drop m xs) x) e in
        omega (arith, k)
