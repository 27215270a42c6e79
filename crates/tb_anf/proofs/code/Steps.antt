-- What the steps of an expression put around a block, by their kind.
use Rattle.std.proofs.Common.{◌≡◌, refl, sym, ap, ◌∙◌, ℕ, zero, suc, Option, Some, None, slice_get, slice_set, List, [], ◌∷◌, ◌++◌, map, arith, subst, get_or, take, length, ◌<◌, ◌+◌}
use Rattle.std.proofs.lemmas.Grind.{common_steps}
use Rattle.std.proofs.lemmas.List.{take_more}
use Rattle.std.proofs.lemmas.Option.{same_Some}
use Rattle.tb_ir.specs.AnfPlain.{view_block, view_op, view_in_block, view_in_op}
use Rattle.tb_ir.specs.AnfTree as A
use Rattle.tb_ir.specs.AnfTree.{Block}
use Rattle.tb_ir.specs.declared.anf.Op.{Op as OpCode}
use Rattle.tb_ir.specs.declared.anf.Block.{Block as BlockCode}
use Rattle.tb_ir.specs.declared.anf.Block.TheVariants as code
use Rattle.tb_ir.specs.declared.anf.Block.TheVariants.{rolls-Bind, rolls-CloseAll, rolls-Tail}
use Rattle.tb_ir.specs.declared.anf.Block.TheOpen.{Block-F}
use Rattle.tb_ir.specs.declared.anf.Block.TheFolds.{fold-roll-Block}
use Rattle.tb_anf.specs.NormalForm.{around, around_at}
use Rattle.tb_anf.specs.calls.Steps.{Arranges, compose, put_in, wrap_of, wrap}
use Rattle.tb_anf.specs.declared.steps.Step.{Step}
use Rattle.tb_anf.specs.declared.steps.Step.TheVariants as step
use Rattle.tb_anf.specs.declared.steps.Step.TheOpen.{Step-F}
use Rattle.tb_anf.specs.declared.steps.Step.TheFolds.{fold-roll-Step}

pub compose-append : (fs gs : List (Block → Block)) (b : Block) → compose (fs ++ gs) b ≡ compose fs (compose gs b)
compose-append [] gs b = refl
compose-append (f ∷ fs) gs b = ap f (compose-append fs gs b)

map_append : (ss ts : List Step) → map wrap_of (ss ++ ts) ≡ map wrap_of ss ++ map wrap_of ts
map_append [] ts = refl
map_append (s ∷ ss) ts = ap (λ fs. wrap_of s ∷ fs) (map_append ss ts)

-- steps after others
pub wrap-append : (ss ts : List Step) (b : Block) → wrap (ss ++ ts) b ≡ wrap ss (wrap ts b)
wrap-append ss ts b = ap (λ fs. compose fs b) (map_append ss ts) ∙ compose-append (map wrap_of ss) (map wrap_of ts) b

pub wrap-last : (ss : List Step) (s : Step) (b : Block) → wrap (ss ++ s ∷ []) b ≡ wrap ss (wrap_of s b)
wrap-last ss s b = wrap-append ss (s ∷ []) b

pub wrap_bind : (x : ℕ) (op : OpCode) (b : Block) → wrap_of (step.Bind x op) b ≡ A.Bind x (view_op op) b
wrap_bind x op b = ap (λ (s : Step). wrap_of s b) (sym (step.rolls-Bind x op)) ∙ ap (λ (f : Block → Block). f b) (fold-roll-Step (Block → Block) put_in (Step-F.Bind x op))

pub wrap_close_all : (xs ls : List ℕ) (b : Block) → wrap_of (step.CloseAll xs ls) b ≡ A.CloseAll xs ls b
wrap_close_all xs ls b = ap (λ (s : Step). wrap_of s b) (sym (step.rolls-CloseAll xs ls)) ∙ ap (λ (f : Block → Block). f b) (fold-roll-Step (Block → Block) put_in (Step-F.CloseAll xs ls))

pub wrap_group : (ss : List Step) (b : Block) → wrap_of (step.Group ss) b ≡ wrap ss b
wrap_group ss b = ap (λ (s : Step). wrap_of s b) (sym (step.rolls-Group ss)) ∙ ap (λ (f : Block → Block). f b) (fold-roll-Step (Block → Block) put_in (Step-F.Group ss))

pub view_bind : (x : ℕ) (op : OpCode) (b : BlockCode) → view_block (code.Bind x op b) ≡ A.Bind x (view_op op) (view_block b)
view_bind x op b = ap view_block (sym (rolls-Bind x op b)) ∙ fold-roll-Block Block A.Op view_in_block view_in_op (Block-F.Bind x op b)

pub view_close_all : (xs ls : List ℕ) (b : BlockCode) → view_block (code.CloseAll xs ls b) ≡ A.CloseAll xs ls (view_block b)
view_close_all xs ls b = ap view_block (sym (rolls-CloseAll xs ls b)) ∙ fold-roll-Block Block A.Op view_in_block view_in_op (Block-F.CloseAll xs ls b)

pub view_tail : (op : OpCode) → view_block (code.Tail op) ≡ A.Tail (view_op op)
view_tail op = ap view_block (sym (rolls-Tail op)) ∙ fold-roll-Block Block A.Op view_in_block view_in_op (Block-F.Tail op)

around_append : (fs : List (Block → Block)) (is js : List ℕ) (b : Block) → around fs (is ++ js) b ≡ around fs is (around fs js b)
around_append fs [] js b = refl
around_append fs (i ∷ is) js b = ap (around_at (slice_get fs i)) (around_append fs is js b)

wrapped_at : (gs : List (List Step)) (i : ℕ) (g : List Step) → slice_get gs i ≡ Some g → slice_get (map wrap gs) i ≡ Some (wrap g)
wrapped_at [] i g e = cc
wrapped_at (h ∷ gs) zero g e = ap (λ v. Some (wrap v)) (same_Some h g e)
wrapped_at (h ∷ gs) (suc i) g e = wrapped_at gs i g e

-- one more group
pub arranges-more : (gs : List (List Step)) (is : List ℕ) (out : List Step) (i : ℕ) (g : List Step) → Arranges gs is out →
    slice_get gs i ≡ Some g → Arranges gs (is ++ i ∷ []) (out ++ step.Group g ∷ [])
arranges-more gs is out i g h e = record {
  is = λ b. wrap-last out (step.Group g) b ∙ ap (wrap out) (wrap_group g b) ∙ h.is (wrap g b)
      ∙ ap (λ (o : Option (Block → Block)). around (map wrap gs) is (around_at o b)) (sym (wrapped_at gs i g e))
      ∙ sym (around_append (map wrap gs) is (i ∷ []) b);
}

pub arranges-step : (gs : List (List Step)) (order : List ℕ) (k : ℕ) (out new : List Step) (g : List Step) → k < length order →
    new ≡ out ++ step.Group g ∷ [] → slice_get gs (get_or order k 0) ≡ Some g → Arranges gs (take k order) out →
    Arranges gs (take (k + 1) order) new
arranges-step gs order k out new g lt e f h =
    subst (λ is. Arranges gs is new) (sym (take_more order k 0 lt))
    (subst (λ ss. Arranges gs (take k order ++ get_or order k 0 ∷ []) ss) (sym e) (arranges-more gs (take k order) out (get_or order k 0) g h f))

-- what is left where one is taken
pub still-left : {X : Type 0} (left : List (Option X)) (i j : ℕ) (x : X) → slice_get (slice_set left i None) j ≡ Some (Some x) →
    slice_get left j ≡ Some (Some x)
still-left [] i j x e = e
still-left (o ∷ left) zero zero x e = cc
still-left (o ∷ left) zero (suc j) x e = e
still-left (o ∷ left) (suc i) zero x e = e
still-left (o ∷ left) (suc i) (suc j) x e = still-left left i j x e

pub ruleset stepping = (common_steps, arith, wrap-last, wrap_bind, wrap_close_all, wrap_group, view_bind, view_close_all, view_tail)
