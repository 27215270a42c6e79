-- Static objects of quoted data keep their rules: each names earlier ones alone, and is short enough.
use Rattle.std.proofs.Common.{◌≡◌, refl, sym, ap, subst, ◌∙◌, ℕ, suc, ◌+◌, ◌<◌, ◌≤◌, ◌^◌, arith, ◌||◌, Bool, true, false, cond, List, [], ◌∷◌, ◌++◌, length}
use Rattle.std.specs.List.{list_any}
use Rattle.tb_prim.specs.declared.constant.Const.{Const}
use Rattle.tb_prim.specs.declared.constant.Static.{Static}
use Rattle.tb_core.specs.Rules.{Every, ConstKeeps, PartKeeps, StaticKeeps, StaticsKeep}
use Rattle.tb_sexp.specs.Tree as datum
use Rattle.tb_expand.specs.Limits.{how_many_data}
use Rattle.tb_expand.specs.Trees.{Node, At, Core, Constant, Unspecified, Undefined, Local, Global, Lambda, If, SetLocal, SetGlobal, DefGlobal, Let, Letrec, Seq, Call, PrimUse, Apply, Nodes, nil, cons}
use Rattle.tb_expand.specs.Constants.{IsShort, IsShortIn, AreShort, HasShort, HasShortIn, HaveShort}
use Rattle.tb_expand.specs.Numbers.{index, Placed, unplaced, finished_object, is_symbol, placed_symbol, PlacedAll, placed, placed_in, placed_pairs, placed_all, statics_of, statics_in, statics_of_all}

-- more objects
part_stays : (m n : ℕ) (k : Const) → m ≤ n → PartKeeps m k → PartKeeps n k
part_stays m n (Const.Fix v) le h = h
part_stays m n (Const.Char c) le h = tt
part_stays m n (Const.Bool b) le h = tt
part_stays m n Const.Nil le h = tt
part_stays m n Const.Unspecified le h = tt
part_stays m n Const.Undefined le h = h
part_stays m n (Const.Stat v) le h = omega arith

parts_stay : (m n : ℕ) (ks : List Const) → m ≤ n → Every (PartKeeps m) ks → Every (PartKeeps n) ks
parts_stay m n [] le h = tt
parts_stay m n (k ∷ ks) le h = (part_stays m n k le h.0, parts_stay m n ks le h.1)

pub part_is_constant : (n : ℕ) (k : Const) → PartKeeps n k → ConstKeeps n k
part_is_constant n (Const.Fix v) h = h
part_is_constant n (Const.Char c) h = tt
part_is_constant n (Const.Bool b) h = tt
part_is_constant n Const.Nil h = tt
part_is_constant n Const.Unspecified h = tt
part_is_constant n Const.Undefined h = tt
part_is_constant n (Const.Stat v) h = h

kept_at : (a b : ℕ) (s : Static) → a ≡ b → StaticKeeps a s → StaticKeeps b s
kept_at a b s e h = subst (λ n. StaticKeeps n s) e h

kept_more : (n : ℕ) (o : List Static) (s : Static) → StaticsKeep n o → StaticKeeps (n + length o) s → StaticsKeep n (o ++ s ∷ [])
kept_more n [] s h k = (kept_at (n + 0) n s (omega arith) k, tt)
kept_more n (x ∷ o) s h k = (h.0, kept_more (suc n) o s h.1 (kept_at (n + length (x ∷ o)) (suc n + length o) s (omega arith) k))

one_longer : (o : List Static) (s : Static) → length (o ++ s ∷ []) ≡ length o + 1
one_longer [] s = refl
one_longer (x ∷ o) s = let h = one_longer o s in omega arith

-- the symbol that is there
found_case : {X : Type 0} (test : X → Bool) (x : X) (xs : List X) (b : Bool) → test x ≡ b → (list_any test xs ≡ true → index test xs < length xs) → (test x || list_any test xs) ≡ true →
    cond b 0 (index test xs + 1) < length xs + 1
found_case test x xs true e f h = omega arith
found_case test x xs false e f h = let k = f (sym (ap (λ b. b || list_any test xs) e) ∙ h) in omega arith

pub found_below : {X : Type 0} (test : X → Bool) (xs : List X) → list_any test xs ≡ true → index test xs < length xs
found_below test [] h = absurd cc
found_below test (x ∷ xs) h = let k = found_case test x xs (test x) refl (found_below test xs) h in omega arith

-- a constant and the objects behind it keep the rules
pub record KeptPlaced (o : List Static) (r : Placed) : Type 0 where
  pub constant : PartKeeps (length r.statics) r.constant
  pub statics : StaticsKeep 0 r.statics
  pub grown : length o ≤ length r.statics

pub record KeptAll (o : List Static) (ds : datum.Trees) (r : PlacedAll) : Type 0 where
  pub constants : Every (PartKeeps (length r.statics)) r.constants
  pub statics : StaticsKeep 0 r.statics
  pub grown : length o ≤ length r.statics
  pub counted : length r.constants ≡ how_many_data ds

finished_keeps : (o r : List Static) (s : Static) → length o ≤ length r → StaticsKeep 0 r → StaticKeeps (length r) s → KeptPlaced o (finished_object r s)
finished_keeps o r s le h k =
    let n = one_longer r s in
    record { constant = omega arith; statics = kept_more 0 r s h (kept_at (length r) (0 + length r) s (omega arith) k); grown = omega arith }

symbol_keeps : (o : List Static) (x : List ℕ) (b : Bool) → list_any (is_symbol x) o ≡ b → StaticsKeep 0 o → length x < 2 ^ 24 → KeptPlaced o (placed_symbol b o x)
symbol_keeps o x true e h g = record { constant = found_below (is_symbol x) o e; statics = h; grown = omega arith }
symbol_keeps o x false e h g = finished_keeps o o (Static.Sym x) (omega arith) h g

pair_keeps : (o : List Static) (a r : Placed) → KeptPlaced o a → KeptPlaced a.statics r → KeptPlaced o (finished_object r.statics (Static.Pair a.constant r.constant))
pair_keeps o a r h k =
    let m = h.grown in
    let n = k.grown in
    finished_keeps o r.statics (Static.Pair a.constant r.constant) (omega arith) k.statics (part_stays (length a.statics) (length r.statics) a.constant k.grown h.constant, k.constant)

mutual
  pub placed_keeps : (o : List Static) (d : datum.Tree) → StaticsKeep 0 o → IsShort d → KeptPlaced o (placed o d)
  placed_keeps o (datum.At p s) h g = placed_in_keeps o s h g

  pub placed_in_keeps : (o : List Static) (s : datum.Shape) → StaticsKeep 0 o → IsShortIn s → KeptPlaced o (placed_in o s)
  placed_in_keeps o datum.Nil h g = record { constant = tt; statics = h; grown = omega arith }
  placed_in_keeps o (datum.Truth b) h g = record { constant = tt; statics = h; grown = omega arith }
  placed_in_keeps o (datum.Fixnum n) h g = record { constant = g; statics = h; grown = omega arith }
  placed_in_keeps o (datum.Character c) h g = record { constant = tt; statics = h; grown = omega arith }
  placed_in_keeps o (datum.String s) h g = finished_keeps o o (Static.Str s) (omega arith) h g
  placed_in_keeps o (datum.Name s alias) h g = symbol_keeps o s (list_any (is_symbol s) o) refl h g
  placed_in_keeps o (datum.Proper ds) h g = pairs_keep o ds (λ r. unplaced r Const.Nil) (λ r k. record { constant = tt; statics = k; grown = omega arith }) h g
  placed_in_keeps o (datum.Dotted ds d) h g = pairs_keep o ds (λ r. placed r d) (λ r k. placed_keeps r d k g.1) h g.0
  placed_in_keeps o (datum.Vector ds) h g =
      let e = all_keep o ds h g.1 in
      let n = e.counted in
      finished_keeps o (placed_all o ds).statics (Static.Vector (placed_all o ds).constants) e.grown e.statics (omega arith, e.constants)

  pairs_keep : (o : List Static) (ds : datum.Trees) (tail : List Static → Placed) → ((r : List Static) → StaticsKeep 0 r → KeptPlaced r (tail r)) → StaticsKeep 0 o → AreShort ds → KeptPlaced o (placed_pairs o ds tail)
  pairs_keep o datum.none tail t h g = t o h
  pairs_keep o (datum.more d ds) tail t h g =
      let a = placed_keeps o d h g.0 in
      pair_keeps o (placed o d) (placed_pairs (placed o d).statics ds tail) a (pairs_keep (placed o d).statics ds tail t a.statics g.1)

  all_keep : (o : List Static) (ds : datum.Trees) → StaticsKeep 0 o → AreShort ds → KeptAll o ds (placed_all o ds)
  all_keep o datum.none h g = record { constants = tt; statics = h; grown = omega arith; counted = refl }
  all_keep o (datum.more d ds) h g =
      let a = placed_keeps o d h g.0 in
      let r = all_keep (placed o d).statics ds a.statics g.1 in
      let m = a.grown in
      let n = r.grown in
      let k = r.counted in
      record {
        constants = (part_stays (length (placed o d).statics) (length (placed_all (placed o d).statics ds).statics) (placed o d).constant r.grown a.constant, r.constants);
        statics = r.statics;
        grown = omega arith;
        counted = omega arith;
      }

-- nodes
mutual
  pub statics_keep : (o : List Static) (e : Node) → StaticsKeep 0 o → HasShort e → StaticsKeep 0 (statics_of o e)
  statics_keep o (At p c) h g = statics_keep_in o c h g

  statics_keep_in : (o : List Static) (c : Core) → StaticsKeep 0 o → HasShortIn c → StaticsKeep 0 (statics_in o c)
  statics_keep_in o (Constant s) h g = (placed_in_keeps o s h g).statics
  statics_keep_in o Unspecified h g = h
  statics_keep_in o Undefined h g = h
  statics_keep_in o (Local x) h g = h
  statics_keep_in o (Global x) h g = h
  statics_keep_in o (Lambda xs r b) h g = statics_keep o b h g
  statics_keep_in o (If a b c) h g = statics_keep (statics_of (statics_of o a) b) c (statics_keep (statics_of o a) b (statics_keep o a h g.0) g.1) g.2
  statics_keep_in o (SetLocal x e) h g = statics_keep o e h g
  statics_keep_in o (SetGlobal q x e) h g = statics_keep o e h g
  statics_keep_in o (DefGlobal x e) h g = statics_keep o e h g
  statics_keep_in o (Let xs es e) h g = statics_keep (statics_of_all o es) e (statics_keep_all o es h g.0) g.1
  statics_keep_in o (Letrec xs es e) h g = statics_keep (statics_of_all o es) e (statics_keep_all o es h g.0) g.1
  statics_keep_in o (Seq es) h g = statics_keep_all o es h g
  statics_keep_in o (Call f es) h g = statics_keep_all (statics_of o f) es (statics_keep o f h g.0) g.1
  statics_keep_in o (PrimUse p es) h g = statics_keep_all o es h g
  statics_keep_in o (Apply f l) h g = statics_keep (statics_of o f) l (statics_keep o f h g.0) g.1

  pub statics_keep_all : (o : List Static) (es : Nodes) → StaticsKeep 0 o → HaveShort es → StaticsKeep 0 (statics_of_all o es)
  statics_keep_all o nil h g = h
  statics_keep_all o (cons e es) h g = statics_keep_all (statics_of o e) es (statics_keep o e h g.0) g.1
