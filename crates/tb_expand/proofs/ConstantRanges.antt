-- The constants of a numbered program name its static objects.
use Rattle.std.proofs.Common.{ℕ, ◌≤◌, arith, Bool, List, [], length}
use Rattle.tb_prim.specs.declared.place.Place.{Place}
use Rattle.tb_prim.specs.declared.constant.Const.{Const}
use Rattle.tb_prim.specs.declared.constant.Static.{Static}
use Rattle.tb_core.specs.Tree.{Form, LambdaTree}
use Rattle.tb_core.specs.Rules.{Every, Each, EachForm, EachAll, ConstKeeps, StaticsKeep}
use Rattle.tb_expand.specs.Trees.{Node, At, Core, Constant, Unspecified, Undefined, Local, Global, Lambda, If, SetLocal, SetGlobal, DefGlobal, Let, Letrec, Seq, Call, PrimUse, Apply, Nodes, nil, cons}
use Rattle.tb_expand.specs.Numbers.{Tables, Before, placed_in, statics_of, statics_in, statics_of_all, behind_node, behind_nodes, behind_values, one_node, one_closure, numbered, numbered_in, numbered_all, lambdas_of, lambdas_in, lambdas_of_all, lambdas_of_values, tables_of, none_before, program_of}
use Rattle.tb_expand.specs.Constants.{ConstantIn, HasShort, HasShortIn, HaveShort}
use Rattle.tb_expand.proofs.StaticObjects.{part_is_constant, placed_in_keeps, statics_keep, statics_keep_all}
use Rattle.tb_expand.proofs.ShapedNumbers.{every_joined}

constant_stays : (m n : ℕ) (k : Const) → m ≤ n → ConstKeeps m k → ConstKeeps n k
constant_stays m n (Const.Fix v) le h = h
constant_stays m n (Const.Char c) le h = tt
constant_stays m n (Const.Bool b) le h = tt
constant_stays m n Const.Nil le h = tt
constant_stays m n Const.Unspecified le h = tt
constant_stays m n Const.Undefined le h = tt
constant_stays m n (Const.Stat v) le h = omega arith

-- static objects are only added
mutual
  grown : (o : List Static) (e : Node) → StaticsKeep 0 o → HasShort e → length o ≤ length (statics_of o e)
  grown o (At p c) k h = grown_in o c k h

  grown_in : (o : List Static) (c : Core) → StaticsKeep 0 o → HasShortIn c → length o ≤ length (statics_in o c)
  grown_in o (Constant s) k h = (placed_in_keeps o s k h).grown
  grown_in o Unspecified k h = omega arith
  grown_in o Undefined k h = omega arith
  grown_in o (Local x) k h = omega arith
  grown_in o (Global g) k h = omega arith
  grown_in o (Lambda xs r e) k h = grown o e k h
  grown_in o (If a c d) k h =
      let ka = statics_keep o a k h.0 in
      let kc = statics_keep (statics_of o a) c ka h.1 in
      let x = grown o a k h.0 in
      let y = grown (statics_of o a) c ka h.1 in
      let z = grown (statics_of (statics_of o a) c) d kc h.2 in
      omega arith
  grown_in o (SetLocal x e) k h = grown o e k h
  grown_in o (SetGlobal q g e) k h = grown o e k h
  grown_in o (DefGlobal g e) k h = grown o e k h
  grown_in o (Let xs es e) k h = let x = grown_all o es k h.0 in let y = grown (statics_of_all o es) e (statics_keep_all o es k h.0) h.1 in omega arith
  grown_in o (Letrec xs es e) k h = let x = grown_all o es k h.0 in let y = grown (statics_of_all o es) e (statics_keep_all o es k h.0) h.1 in omega arith
  grown_in o (Seq es) k h = grown_all o es k h
  grown_in o (Call f es) k h = let x = grown o f k h.0 in let y = grown_all (statics_of o f) es (statics_keep o f k h.0) h.1 in omega arith
  grown_in o (PrimUse q es) k h = grown_all o es k h
  grown_in o (Apply f l) k h = let x = grown o f k h.0 in let y = grown (statics_of o f) l (statics_keep o f k h.0) h.1 in omega arith

  grown_all : (o : List Static) (es : Nodes) → StaticsKeep 0 o → HaveShort es → length o ≤ length (statics_of_all o es)
  grown_all o nil k h = omega arith
  grown_all o (cons e es) k h = let x = grown o e k h.0 in let y = grown_all (statics_of o e) es (statics_keep o e k h.0) h.1 in omega arith

abbrev pub Within : ℕ → ℕ → Form → Type 0
Within n s f = ConstantIn n f

abbrev pub LambdaWithin : ℕ → LambdaTree → Type 0
LambdaWithin n l = Each (Within n) l.body

form_in : (t : Tables) (b : Before) (c : Core) (n : ℕ) → StaticsKeep 0 b.statics → HasShortIn c → length (statics_in b.statics c) ≤ n → ConstantIn n (numbered_in t b c)
form_in t b (Constant s) n k h le =
    let r = placed_in_keeps b.statics s k h in
    constant_stays (length (placed_in b.statics s).statics) n (placed_in b.statics s).constant le (part_is_constant (length (placed_in b.statics s).statics) (placed_in b.statics s).constant r.constant)
form_in t b Unspecified n k h le = tt
form_in t b Undefined n k h le = tt
form_in t b (Local x) n k h le = tt
form_in t b (Global g) n k h le = tt
form_in t b (Lambda xs r e) n k h le = tt
form_in t b (If a c d) n k h le = tt
form_in t b (SetLocal x e) n k h le = tt
form_in t b (SetGlobal q g e) n k h le = tt
form_in t b (DefGlobal g e) n k h le = tt
form_in t b (Let xs es e) n k h le = tt
form_in t b (Letrec xs es e) n k h le = tt
form_in t b (Seq es) n k h le = tt
form_in t b (Call f es) n k h le = tt
form_in t b (PrimUse q es) n k h le = tt
form_in t b (Apply f l) n k h le = tt

mutual
  node_in : (t : Tables) (b : Before) (e : Node) (n : ℕ) → StaticsKeep 0 b.statics → HasShort e → length (statics_of b.statics e) ≤ n → Each (Within n) (numbered t b e)
  node_in t b (At p c) n k h le = (form_in t (one_node b) c n k h le, parts_in t (one_node b) c n k h le)

  parts_in : (t : Tables) (b : Before) (c : Core) (n : ℕ) → StaticsKeep 0 b.statics → HasShortIn c → length (statics_in b.statics c) ≤ n → EachForm (Within n) (numbered_in t b c)
  parts_in t b (Constant s) n k h le = tt
  parts_in t b Unspecified n k h le = tt
  parts_in t b Undefined n k h le = tt
  parts_in t b (Local x) n k h le = tt
  parts_in t b (Global g) n k h le = tt
  parts_in t b (Lambda xs r e) n k h le = tt
  parts_in t b (If a c d) n k h le =
      let ka = statics_keep b.statics a k h.0 in
      let kc = statics_keep (statics_of b.statics a) c ka h.1 in
      let y = grown (statics_of b.statics a) c ka h.1 in
      let z = grown (statics_of (statics_of b.statics a) c) d kc h.2 in
      (node_in t b a n k h.0 (omega arith), node_in t (behind_node b a) c n ka h.1 (omega arith), node_in t (behind_node (behind_node b a) c) d n kc h.2 le)
  parts_in t b (SetLocal x e) n k h le = node_in t b e n k h le
  parts_in t b (SetGlobal q g e) n k h le = node_in t b e n k h le
  parts_in t b (DefGlobal g e) n k h le = node_in t b e n k h le
  parts_in t b (Let xs es e) n k h le =
      let ke = statics_keep_all b.statics es k h.0 in
      let y = grown (statics_of_all b.statics es) e ke h.1 in
      (nodes_in t b es n k h.0 (omega arith), node_in t (behind_nodes b es) e n ke h.1 le)
  parts_in t b (Letrec xs es e) n k h le = node_in t (behind_values b es) e n (statics_keep_all b.statics es k h.0) h.1 le
  parts_in t b (Seq es) n k h le = nodes_in t b es n k h le
  parts_in t b (Call f es) n k h le =
      let kf = statics_keep b.statics f k h.0 in
      let y = grown_all (statics_of b.statics f) es kf h.1 in
      (node_in t b f n k h.0 (omega arith), nodes_in t (behind_node b f) es n kf h.1 le)
  parts_in t b (PrimUse q es) n k h le = nodes_in t b es n k h le
  parts_in t b (Apply f l) n k h le =
      let kf = statics_keep b.statics f k h.0 in
      let y = grown (statics_of b.statics f) l kf h.1 in
      (node_in t b f n k h.0 (omega arith), node_in t (behind_node b f) l n kf h.1 le)

  nodes_in : (t : Tables) (b : Before) (es : Nodes) (n : ℕ) → StaticsKeep 0 b.statics → HaveShort es → length (statics_of_all b.statics es) ≤ n → EachAll (Within n) (numbered_all t b es)
  nodes_in t b nil n k h le = tt
  nodes_in t b (cons e es) n k h le =
      let ke = statics_keep b.statics e k h.0 in
      let y = grown_all (statics_of b.statics e) es ke h.1 in
      (node_in t b e n k h.0 (omega arith), nodes_in t (behind_node b e) es n ke h.1 le)

mutual
  lambdas_within : (t : Tables) (b : Before) (e : Node) (n : ℕ) → StaticsKeep 0 b.statics → HasShort e → length (statics_of b.statics e) ≤ n → Every (LambdaWithin n) (lambdas_of t b e)
  lambdas_within t b (At p c) n k h le = lambdas_at t (one_node b) p c n k h le

  lambdas_at : (t : Tables) (b : Before) (p : Place) (c : Core) (n : ℕ) → StaticsKeep 0 b.statics → HasShortIn c → length (statics_in b.statics c) ≤ n → Every (LambdaWithin n) (lambdas_in t b p c)
  lambdas_at t b p (Constant s) n k h le = tt
  lambdas_at t b p Unspecified n k h le = tt
  lambdas_at t b p Undefined n k h le = tt
  lambdas_at t b p (Local x) n k h le = tt
  lambdas_at t b p (Global g) n k h le = tt
  lambdas_at t b p (Lambda xs r e) n k h le = (node_in t (one_closure b) e n k h le, lambdas_within t (one_closure b) e n k h le)
  lambdas_at t b p (If a c d) n k h le =
      let ka = statics_keep b.statics a k h.0 in
      let kc = statics_keep (statics_of b.statics a) c ka h.1 in
      let y = grown (statics_of b.statics a) c ka h.1 in
      let z = grown (statics_of (statics_of b.statics a) c) d kc h.2 in
      every_joined (LambdaWithin n) _ _ (lambdas_within t b a n k h.0 (omega arith))
      (every_joined (LambdaWithin n) _ _ (lambdas_within t (behind_node b a) c n ka h.1 (omega arith)) (lambdas_within t (behind_node (behind_node b a) c) d n kc h.2 le))
  lambdas_at t b p (SetLocal x e) n k h le = lambdas_within t b e n k h le
  lambdas_at t b p (SetGlobal q g e) n k h le = lambdas_within t b e n k h le
  lambdas_at t b p (DefGlobal g e) n k h le = lambdas_within t b e n k h le
  lambdas_at t b p (Let xs es e) n k h le =
      let ke = statics_keep_all b.statics es k h.0 in
      let y = grown (statics_of_all b.statics es) e ke h.1 in
      every_joined (LambdaWithin n) _ _ (lambdas_all t b es n k h.0 (omega arith)) (lambdas_within t (behind_nodes b es) e n ke h.1 le)
  lambdas_at t b p (Letrec xs es e) n k h le =
      let ke = statics_keep_all b.statics es k h.0 in
      let y = grown (statics_of_all b.statics es) e ke h.1 in
      every_joined (LambdaWithin n) _ _ (lambdas_values t b es n k h.0 (omega arith)) (lambdas_within t (behind_values b es) e n ke h.1 le)
  lambdas_at t b p (Seq es) n k h le = lambdas_all t b es n k h le
  lambdas_at t b p (Call f es) n k h le =
      let kf = statics_keep b.statics f k h.0 in
      let y = grown_all (statics_of b.statics f) es kf h.1 in
      every_joined (LambdaWithin n) _ _ (lambdas_within t b f n k h.0 (omega arith)) (lambdas_all t (behind_node b f) es n kf h.1 le)
  lambdas_at t b p (PrimUse q es) n k h le = lambdas_all t b es n k h le
  lambdas_at t b p (Apply f l) n k h le =
      let kf = statics_keep b.statics f k h.0 in
      let y = grown (statics_of b.statics f) l kf h.1 in
      every_joined (LambdaWithin n) _ _ (lambdas_within t b f n k h.0 (omega arith)) (lambdas_within t (behind_node b f) l n kf h.1 le)

  lambdas_all : (t : Tables) (b : Before) (es : Nodes) (n : ℕ) → StaticsKeep 0 b.statics → HaveShort es → length (statics_of_all b.statics es) ≤ n → Every (LambdaWithin n) (lambdas_of_all t b es)
  lambdas_all t b nil n k h le = tt
  lambdas_all t b (cons e es) n k h le =
      let ke = statics_keep b.statics e k h.0 in
      let y = grown_all (statics_of b.statics e) es ke h.1 in
      every_joined (LambdaWithin n) _ _ (lambdas_within t b e n k h.0 (omega arith)) (lambdas_all t (behind_node b e) es n ke h.1 le)

  lambdas_values : (t : Tables) (b : Before) (es : Nodes) (n : ℕ) → StaticsKeep 0 b.statics → HaveShort es → length (statics_of_all b.statics es) ≤ n → Every (LambdaWithin n) (lambdas_of_values t b es)
  lambdas_values t b nil n k h le = tt
  lambdas_values t b (cons (At p c) es) n k h le =
      let ke = statics_keep b.statics (At p c) k h.0 in
      let y = grown_all (statics_of b.statics (At p c)) es ke h.1 in
      every_joined (LambdaWithin n) _ _ (lambdas_at t b p c n k h.0 (omega arith)) (lambdas_values t (behind_values b (cons (At p c) nil)) es n ke h.1 le)

pub forms_within : (library : Bool) (es : Nodes) → HaveShort es → EachAll (Within (length (program_of library es).statics)) (program_of library es).forms
unfolding program_of
forms_within library es h = nodes_in (tables_of es) none_before es (length (statics_of_all [] es)) tt h (omega arith)

pub all_lambdas_within : (library : Bool) (es : Nodes) → HaveShort es → Every (LambdaWithin (length (program_of library es).statics)) (program_of library es).lambdas
unfolding program_of
all_lambdas_within library es h = lambdas_all (tables_of es) none_before es (length (statics_of_all [] es)) tt h (omega arith)
