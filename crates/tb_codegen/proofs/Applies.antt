-- `apply`: the walk of a list, and the entry of a procedure with its elements.
use Rattle.std.proofs.Common.{◌≡◌, refl, sym, ◌∙◌, subst, subst₂, ap, ℕ, zero, suc, ◌+◌, ◌<◌, ◌≤◌, ◌⊎◌, inl, inr, ⊎_elim, arith, List, [], ◌∷◌, ◌++◌, length, Option, Some, None, slice_get, slice_set, length-set}
use Rattle.std.specs.Prelude.{pos}
use Rattle.tb_prim.specs.declared.event.Cause.{Cause}
use Rattle.tb_prim.specs.declared.event.Event.{Event}
use Rattle.tb_prim.specs.declared.event.Stop.{Stop}
use Rattle.tb_prim.specs.declared.constant.Const.{Const}
use Rattle.tb_prim.specs.declared.place.Place.{Place}
use Rattle.tb_semantics.specs.Graph.{IsIn, Reaches, root, child, below}
use Rattle.tb_semantics.proofs.ListLemmas.{in-cases, in-left, in-right}
use Rattle.tb_core.specs.Store.{Value, At, Truth, Nil, Unspecified, Undefined, EndObject, Pair, Vec, Str, Sym, Content, Holds as HoldsObject, Procedure, Other}
use Rattle.tb_core.specs.Lists as L
use Rattle.tb_core.specs.Space.{value_locations, values_locations}
use Rattle.tb_ir.specs.TreeMachine.{env_values}
use Rattle.tb_ir.specs.AnfTree.{Operand, Block, Apply, AnfTree}
use Rattle.tb_ir.specs.AnfMachine.{AnfConfig, AnfFrames, InBlock, InOp, atom_values, free_of_atom, free_op, language}
use Rattle.tb_ir.specs.Machine.{Closure, Env, Empty, Eval, Item, Cell, Obj, Clo, bind_all, content_of, contents, fail, gather, apply as apply_source}
use Rattle.tb_ir.specs.Space.{locations_of, store_graph}
use Rattle.tb_mac.specs.declared.code.Instr.TheVariants as I
use Rattle.tb_mac.specs.declared.word.Word.{Word}
use Rattle.tb_mac.specs.declared.word.Word.TheVariants as W
use Rattle.tb_mac.specs.Assembled.{Assembled}
use Rattle.tb_mac.specs.Effects.{procedure_at}
use Rattle.tb_mac.specs.Frames.{Frame as MacFrame}
use Rattle.tb_mac.specs.MacStep as S
use Rattle.tb_mac.specs.MacStep.{place_of, put_words, walk_list}
use Rattle.tb_mac.specs.Objects.{procedure_kind, procedure_tag}
use Rattle.tb_codegen.specs.Notes.{Entry, Stands, Spot, Reg, Constant, Own, Note, Inside, AtBlock, AtProc, Waiting, symbol_of}
use Rattle.tb_codegen.specs.Generate.{captured_in}
use Rattle.tb_codegen.proofs.Calls.{Kind, k_at, k_data, kind_of, n_cell, n_object, calls_to, no_procedure, operand_location}
use Rattle.tb_codegen.proofs.Changes.{Args, no_args, an_arg, OpAt}
use Rattle.tb_codegen.proofs.Envs.{get-set, get-set-other}
use Rattle.tb_codegen.proofs.Moves.{done}
use Rattle.tb_codegen.proofs.Ok.{Calls, HasNote, IsWritten, free}
use Rattle.tb_codegen.proofs.Operands.{atom_there, fails_op, op_starts, value-gather}
use Rattle.tb_codegen.proofs.Rel.{AboutTo, AtCall, Closed, FsRel, Holds, Ins, in_none, in_more, JRel, Lk, Memory, ORel, o_cell, o_pair, o_vector, o_string, o_symbol, o_procedure, OwnRel, IsCut, r_calls, Stores, WRel, w_fix, w_char, w_false, w_true, w_nil, w_unspecified, w_undefined, w_end, w_at, WsRel, ws_none, ws_more, Whole, World, config, tag_of}
use Rattle.tb_codegen.proofs.Sim.{Sim, Still, source}
use Rattle.tb_codegen.proofs.Views.{View, x_data, x_pair, x_vector, x_string, x_symbol, x_cell, x_procedure, view}

-- the walks of both sides
pub data WalkRel (w : World) (n : ℕ) : S.Walked → L.Walked → Type 0 where
  k_elements : {us : List Word} {vs : List Value} → WsRel w us vs → length vs ≤ n → WalkRel w n (S.Elements us) (L.Elements vs)
  k_long : WalkRel w n (S.NoList Cause.TooMany) L.TooLong
  k_none : WalkRel w n (S.NoList Cause.WrongType) L.NoList

walk_more : (w : World) (n : ℕ) (u : Word) (v : Value) (a : S.Walked) (b : L.Walked) → WRel w u v → WalkRel w n a b → WalkRel w (suc n) (S.with_element u a) (L.with_element v b)
walk_more w n u v a b r (k_elements rs le) = k_elements (ws_more r rs) (omega arith)
walk_more w n u v a b r k_long = k_long
walk_more w n u v a b r k_none = k_none

-- where no pair stands
ends : (w : World) (n : ℕ) (heap : List Word) (st : List Item) (u : Word) (v : Value) → View w heap st u v → WRel w u v → WalkRel w n (S.ends_list u) (L.ends_list v)
ends w n heap st u v x (w_fix k) = k_none
ends w n heap st u v x (w_char k) = k_none
ends w n heap st u v x w_false = k_none
ends w n heap st u v x w_true = k_none
ends w n heap st u v x w_nil = k_elements ws_none (omega arith)
ends w n heap st u v x w_unspecified = k_none
ends w n heap st u v x w_undefined = k_none
ends w n heap st u v x w_end = k_none
ends w n heap st u v x (w_at i) = k_none

data_content : (st : ℕ → Content) (v : Value) → ((l : ℕ) → v ≡ At l → ⊥) → L.content_at st v ≡ Other
data_content st (Value.Fix n) ne = refl
data_content st (Value.Char n) ne = refl
data_content st (Truth b) ne = refl
data_content st Nil ne = refl
data_content st Unspecified ne = refl
data_content st Undefined ne = refl
data_content st EndObject ne = refl
data_content st (At l) ne = absurd (ne l refl)

module _ (p : AnfTree) (notes : List Note) (w : World) (globals : ℕ) (heap : List Word) (st : List Item) (s : Stores p notes w Closed globals heap st) where
  at_limit : (u : Word) (v : Value) → View w heap st u v → WRel w u v → WalkRel w 0 (S.walked (λ at. slice_get heap at) 0 u) (L.walked (contents st) 0 v)
  at_limit u v (x_data no_object none ne) r = let q = data_content (contents st) v ne in rw (none, q) (ends w 0 heap st u v (x_data no_object none ne) r)
  at_limit u v (x_pair x y ux uy c e1 e2 r1 r2 k there) r = rw c k_long
  at_limit u v (x_vector vs few c hd pr k there) r = rw c k_none
  at_limit u v (x_string cs few c hd pr k there) r = rw c k_none
  at_limit u v (x_symbol cs few c hd pr) r = rw c k_none
  at_limit u v (x_cell c hd) r = rw c k_none
  at_limit u v (x_procedure c hd) r = rw c k_none

  walk_viewed : (n : ℕ) (u : Word) (v : Value) → ((u : Word) (v : Value) → WRel w u v → WalkRel w n (S.walked (λ at. slice_get heap at) n u) (L.walked (contents st) n v)) →
      View w heap st u v → WRel w u v → WalkRel w (suc n) (S.walked (λ at. slice_get heap at) (suc n) u) (L.walked (contents st) (suc n) v)
  walk_viewed n u v rec (x_data no_object none ne) r = let q = data_content (contents st) v ne in rw (none, q) (ends w (suc n) heap st u v (x_data no_object none ne) r)
  walk_viewed n u v rec (x_pair x y ux uy c e1 e2 r1 r2 k there) r = rw (c, e1, e2) (walk_more w n ux x _ _ r1 (rec uy y r2))
  walk_viewed n u v rec (x_vector vs few c hd pr k there) r = rw c k_none
  walk_viewed n u v rec (x_string cs few c hd pr k there) r = rw c k_none
  walk_viewed n u v rec (x_symbol cs few c hd pr) r = rw c k_none
  walk_viewed n u v rec (x_cell c hd) r = rw c k_none
  walk_viewed n u v rec (x_procedure c hd) r = rw c k_none

  walks : (n : ℕ) (u : Word) (v : Value) → WRel w u v → WalkRel w n (S.walked (λ at. slice_get heap at) n u) (L.walked (contents st) n v)
  walks zero u v r = at_limit u v (view p notes w globals heap st u v s r) r
  walks (suc n) u v r = walk_viewed n u v (walks n) (view p notes w globals heap st u v s r) r

  pub walk_rel : (u : Word) (v : Value) → WRel w u v → WalkRel w 12 (walk_list (λ at. slice_get heap at) u) (L.walked (contents st) 12 v)
  unfolding walk_list
  walk_rel u v r = walks 12 u v r

-- the elements of a list that can be reached can be
module _ (p : AnfTree) (c : AnfConfig) where
  abbrev Seen : ℕ → Type 0
  Seen l = Reaches (store_graph (language p).values (length p.statics) c) l

  pair_seen : (v a b : Value) → L.content_at (contents c.store) v ≡ HoldsObject (Pair a b) → ((l : ℕ) → IsIn l (value_locations v) → Seen l) →
      ((l : ℕ) → IsIn l (value_locations a ++ value_locations b) → Seen l)
  pair_seen (Value.Fix n) a b e f = cc
  pair_seen (Value.Char n) a b e f = cc
  pair_seen (Truth n) a b e f = cc
  pair_seen Nil a b e f = cc
  pair_seen Unspecified a b e f = cc
  pair_seen Undefined a b e f = cc
  pair_seen EndObject a b e f = cc
  pair_seen (At k) a b e f = λ l i. child (f k (inl refl)) (item_pair (slice_get c.store k) a b l e i)
    where
      item_pair : (o : Option Item) (a b : Value) (l : ℕ) → content_of o ≡ HoldsObject (Pair a b) → IsIn l (value_locations a ++ value_locations b) → IsIn l (locations_of o)
      item_pair None a b l e i = cc
      item_pair (Some (Cell v)) a b l e i = cc
      item_pair (Some (Obj (Pair x y))) a b l e i = let p : x ≡ a = cc (e) in let q : y ≡ b = cc (e) in subst₂ (λ x y. IsIn l (value_locations x ++ value_locations y)) (sym p) (sym q) i
      item_pair (Some (Obj (Vec vs))) a b l e i = cc
      item_pair (Some (Obj (Str cs))) a b l e i = cc
      item_pair (Some (Obj (Sym cs))) a b l e i = cc
      item_pair (Some (Clo m r)) a b l e i = cc

  with_parts : (v : Value) (b : L.Walked) (vs : List Value) → L.with_element v b ≡ L.Elements vs → (ws : List Value) × (b ≡ L.Elements ws) × (vs ≡ v ∷ ws)
  with_parts v (L.Elements ws) vs e = (ws, refl, sym (cc (e)))
  with_parts v L.TooLong vs e = cc
  with_parts v L.NoList vs e = cc

  ended : (v : Value) (vs : List Value) → L.ends_list v ≡ L.Elements vs → vs ≡ []
  ended (Value.Fix n) vs e = cc
  ended (Value.Char n) vs e = cc
  ended (Truth n) vs e = cc
  ended Nil vs e = sym (cc (e))
  ended Unspecified vs e = cc
  ended Undefined vs e = cc
  ended EndObject vs e = cc
  ended (At k) vs e = cc

  none_seen : (vs : List Value) → vs ≡ [] → (l : ℕ) → IsIn l (values_locations vs) → Seen l
  none_seen vs e l i = absurd (subst (λ vs. IsIn l (values_locations vs)) e i)

  pub elements_seen : (n : ℕ) (v : Value) (vs : List Value) → L.walked (contents c.store) n v ≡ L.Elements vs → ((l : ℕ) → IsIn l (value_locations v) → Seen l) → (l : ℕ) → IsIn l (values_locations vs) → Seen l
  elements_seen zero v vs e f l i = limit_seen (L.content_at (contents c.store) v) e l i
    where
      limit_seen : (o : Content) → L.walked_at_limit v o ≡ L.Elements vs → (l : ℕ) → IsIn l (values_locations vs) → Seen l
      limit_seen (HoldsObject (Pair a b)) e l i = cc
      limit_seen (HoldsObject (Vec ws)) e l i = none_seen vs (ended v vs e) l i
      limit_seen (HoldsObject (Str ws)) e l i = none_seen vs (ended v vs e) l i
      limit_seen (HoldsObject (Sym ws)) e l i = none_seen vs (ended v vs e) l i
      limit_seen Procedure e l i = none_seen vs (ended v vs e) l i
      limit_seen Other e l i = none_seen vs (ended v vs e) l i
  elements_seen (suc n) v vs e f l i = more_seen (λ b ws e f. elements_seen n b ws e f l) (L.content_at (contents c.store) v) refl e
    where
      more_seen : ((b : Value) (ws : List Value) → L.walked (contents c.store) n b ≡ L.Elements ws → ((l : ℕ) → IsIn l (value_locations b) → Seen l) → IsIn l (values_locations ws) → Seen l) → (o : Content) → L.content_at (contents c.store) v ≡ o → L.walked_pair (L.walked (contents c.store) n) v o ≡ L.Elements vs → Seen l
      more_seen rec (HoldsObject (Pair a b)) q e =
          let t = with_parts a (L.walked (contents c.store) n b) vs e in
          let g = pair_seen v a b q f in
          ⊎_elim (λ j. g l (in-left (value_locations a) (value_locations b) l j)) (λ j. rec b t.0 t.1 (λ m k. g m (in-right (value_locations a) (value_locations b) m k)) j)
          (in-cases (value_locations a) (values_locations t.0) l (subst (λ vs. IsIn l (values_locations vs)) t.2 i))
      more_seen rec (HoldsObject (Vec ws)) q e = none_seen vs (ended v vs e) l i
      more_seen rec (HoldsObject (Str ws)) q e = none_seen vs (ended v vs e) l i
      more_seen rec (HoldsObject (Sym ws)) q e = none_seen vs (ended v vs e) l i
      more_seen rec Procedure q e = none_seen vs (ended v vs e) l i
      more_seen rec Other q e = none_seen vs (ended v vs e) l i

-- operands that are put into registers from one on
put_below : (a i : ℕ) (us regs : List Word) (u : Word) → i < a → slice_get regs i ≡ Some u → slice_get (put_words a us regs) i ≡ Some u
put_below a i [] regs u lt e = e
put_below a i (x ∷ us) regs u lt e = put_below (a + 1) i us (slice_set regs a x) u (omega arith) (get-set-other regs a i u x (λ q. omega arith) e)

length_put : (a : ℕ) (us regs : List Word) → length (put_words a us regs) ≡ length regs
length_put a [] regs = refl
length_put a (x ∷ us) regs = length_put (a + 1) us (slice_set regs a x) ∙ length-set regs a x

put_ins : (w : World) (a b : ℕ) (us : List Word) (vs : List Value) (regs : List Word) (n : Word) → WsRel w us vs → a ≡ b → a + length vs ≤ 16 → 16 < length regs →
    Ins w (slice_set (put_words a us regs) 16 n) b vs
put_ins w a b us vs regs n ws_none e le lt = in_none
put_ins w a b us vs regs n (ws_more {u = u} {us = us2} {vs = vs2} r rs) e le lt =
    let here = get-set regs a u (omega arith) in
    let kept = put_below (a + 1) a us2 (slice_set regs a u) u (omega arith) here in
    let long = length-set regs a u in
    in_more (subst (λ i. slice_get (slice_set (put_words (a + 1) us2 (slice_set regs a u)) 16 n) i ≡ Some u) e (get-set-other (put_words (a + 1) us2 (slice_set regs a u)) 16 a u n (λ q. omega arith) kept)) r
    (put_ins w (a + 1) (suc b) us2 vs2 (slice_set regs a u) n rs (omega arith) (omega arith) (omega arith))

ws_length : (w : World) (us : List Word) (vs : List Value) → WsRel w us vs → length us ≡ length vs
ws_length w us vs ws_none = refl
ws_length w us vs (ws_more r rs) = ap suc (ws_length w _ _ rs)

apply_data : (c : AnfConfig) (q : Place) (v a : Value) (fs : AnfFrames) (es : List Event) → ((l : ℕ) → v ≡ At l → ⊥) → apply_source c q v a fs es ≡ fail c Cause.NotProcedure q es
apply_data c q (Value.Fix n) a fs es ne = refl
apply_data c q (Value.Char n) a fs es ne = refl
apply_data c q (Truth b) a fs es ne = refl
apply_data c q Nil a fs es ne = refl
apply_data c q Unspecified a fs es ne = refl
apply_data c q Undefined a fs es ne = refl
apply_data c q EndObject a fs es ne = refl
apply_data c q (At l) a fs es ne = absurd (ne l refl)

module _ (p : AnfTree) (notes : List Note) (limit : ℕ) (c : Assembled) where
  applied_none : (x : Still) {w : World} {f a : Operand} {q : Place} {b : Block} {js gs : Waiting} {o : Option (List ℕ)}
      {own : Own} {old : List Entry} {rs : List Env} {fr fs : AnfFrames} {slots : List Word} {top ms : List MacFrame} (r : Env) (u : Word) (v va : Value) (k : ℕ) →
      OpAt (captured_in p) (Apply f a q) b js gs o → slice_get x.regs 0 ≡ Some u → procedure_at (λ at. slice_get x.heap at) u ≡ None →
      atom_values (gather (free_op (captured_in p) (Apply f a q)) r) (f ∷ a ∷ []) ≡ Some (v ∷ va ∷ []) →
      ((c : AnfConfig) → c.store ≡ x.st → apply_source c q v va c.frames x.es ≡ fail c Cause.NotProcedure q x.es) → place_of c.places x.pc ≡ Some q →
      HasNote p notes x.pc (Inside (AtBlock b js) own old) → IsCut p notes (free p b) r → JRel js rs fr fs → Holds p x.st w (r ∷ rs) x.regs slots old →
      OwnRel own slots top ms → FsRel p notes w fs ms → length x.regs ≡ 17 → Memory p notes w Closed x.heap x.st x.globals x.ahead x.input x.cin x.met →
      Sim p notes limit (done p notes limit c x top I.Apply) k (source p notes limit x (Eval (InBlock b) r) fr)
  applied_none x {w = w} {q = q} r u v va k at e0 none values ne place here cut j h o2 fr len mem =
      rw (e0, none, place) (fails_op p notes limit x r (Stop.Fail Cause.NotProcedure q) (x.es ++ Event.Fail Cause.NotProcedure q ∷ []) k at here cut j h o2 fr len
      (λ hs. rw values (ne _ refl)) mem)

  -- the procedure that is applied, with the walk of the list
  applied_to : (x : Still) {w : World} {ad l : ℕ} {f a : Operand} {q : Place} {b : Block} {js gs : Waiting} {o : Option (List ℕ)}
      {own : Own} {old : List Entry} {rs : List Env} {fr fs : AnfFrames} {slots : List Word} {top ms : List MacFrame} (r : Env) (t m e : ℕ) (caught : List Value) (ua : Word) (va : Value) (wm : S.Walked) (wl : L.Walked) (k : ℕ) →
      WalkRel w 12 wm wl → walk_list (λ at. slice_get x.heap at) ua ≡ wm → L.walked (contents x.st) 12 va ≡ wl →
      OpAt (captured_in p) (Apply f a q) b js gs o → slice_get x.regs 0 ≡ Some (W.Pointer t ad) → slice_get x.regs 1 ≡ Some ua → IsIn (Lk t ad l) w → t ≡ procedure_tag →
      slice_get x.st l ≡ Some (Clo m (bind_all (captured_in p m) caught Empty)) → slice_get x.heap ad ≡ Some (W.Header procedure_kind (length caught)) → slice_get x.heap (ad + 1) ≡ Some (W.Code e) →
      HasNote p notes e (AtProc m) → length caught ≡ length (captured_in p m) →
      atom_values (gather (free_op (captured_in p) (Apply f a q)) r) (f ∷ a ∷ []) ≡ Some (At l ∷ va ∷ []) →
      ((z : ℕ) → IsIn z (values_locations (At l ∷ va ∷ [])) → IsIn z (below (length p.statics)) ⊎ IsIn z (values_locations (env_values (gather (free_op (captured_in p) (Apply f a q)) r)))) →
      Calls p (HasNote p notes) gs o old own → place_of c.places x.pc ≡ Some q →
      HasNote p notes x.pc (Inside (AtBlock b js) own old) → IsCut p notes (free p b) r → JRel js rs fr fs → Holds p x.st w (r ∷ rs) x.regs slots old →
      OwnRel own slots top ms → FsRel p notes w fs ms → length x.regs ≡ 17 → Memory p notes w Closed x.heap x.st x.globals x.ahead x.input x.cin x.met →
      Sim p notes limit (done p notes limit c x top I.Apply) k (source p notes limit x (Eval (InBlock b) r) fr)
  applied_to x {q = q} r t m e caught ua va wm wl k k_long em el at e0 e1 lk tg there hd cd note long values reach cs place here cut j h o2 fr len mem =
      rw (e0, tg, hd, e1, em, place) (fails_op p notes limit x r (Stop.Fail Cause.TooMany q) (x.es ++ Event.Fail Cause.TooMany q ∷ []) k at here cut j h o2 fr len (λ hs. rw (values, there, el) refl) mem)
  applied_to x {q = q} r t m e caught ua va wm wl k k_none em el at e0 e1 lk tg there hd cd note long values reach cs place here cut j h o2 fr len mem =
      rw (e0, tg, hd, e1, em, place) (fails_op p notes limit x r (Stop.Fail Cause.WrongType q) (x.es ++ Event.Fail Cause.WrongType q ∷ []) k at here cut j h o2 fr len (λ hs. rw (values, there, el) refl) mem)
  applied_to x {w = w} {ad = ad} {l = l} {f = f} {a = a} {q = q} r t m e caught ua va wm wl k (k_elements {us = us} {vs = vs} rs few) em el at e0 e1 lk tg there hd cd note long values reach cs place here cut j h o2 fs len mem =
      let F = gather (free_op (captured_in p) (Apply f a q)) r in
      let s = op_starts p notes limit r at j in
      let to = calls_to p notes limit w x.st cs refl s.2 h o2 fs in
      let n = W.Fix (pos (length us)) in
      let regs2 = slice_set (put_words 1 us x.regs) 16 n in
      let cf = config p notes (Eval (InOp (Apply f a q)) F) s.0 x.globals x.st x.cin x.met in
      let el2 = ws_length w us vs rs in
      let lp = length_put 1 us x.regs in
      let number : slice_get regs2 16 ≡ Some (W.Fix (pos (length vs))) = get-set (put_words 1 us x.regs) 16 n (omega arith) ∙ ap (λ n. Some (W.Fix (pos n))) el2 in
      let reg0 : slice_get regs2 0 ≡ Some (W.Pointer procedure_tag ad) = get-set-other (put_words 1 us x.regs) 16 0 _ n (λ q. omega arith) (put_below 1 0 us x.regs _ (omega arith) (e0 ∙ ap (λ t. Some (W.Pointer t ad)) tg)) in
      let call : AtCall p w x.st m regs2 l vs = record {
        itself = ad;
        caught = caught;
        link = subst (λ t. IsIn (Lk t ad l) w) tg lk;
        item = there;
        long = long;
        reg0 = reg0;
        number = number;
        few = few;
        ops = put_ins w 1 1 us vs x.regs n rs refl (omega arith) (omega arith);
      } in
      let seen : (z : ℕ) → IsIn z (values_locations (At l ∷ va ∷ [])) → Seen p cf z =
      λ z i. root (⊎_elim (in-left (below (length p.statics)) _ z) (λ g. in-right (below (length p.statics)) _ z (in-left (values_locations (env_values F)) _ z g)) (reach z i)) in
      let about : AboutTo p notes cf (Closure l) vs m x.es (l ∷ values_locations vs) = record {
        enters = rw (values, there, el) refl;
        reached = λ z i. ⊎_elim (λ g. seen z (inl g)) (λ g. elements_seen p cf 12 va vs el (λ y h. seen y (inr (in-left (value_locations va) [] y h))) z g) i;
      } in
      rw (e0, tg, hd, e1, em, cd) (1, (w, rw (s.1 x) (r_calls x.es note call about to.marked to.rel mem (length-set (put_words 1 us x.regs) 16 n ∙ lp ∙ len))), inl (omega arith))

  applied_at : (x : Still) {w : World} {ad l : ℕ} {f a : Operand} {q : Place} {b : Block} {js gs : Waiting} {o : Option (List ℕ)}
      {own : Own} {old : List Entry} {rs : List Env} {fr fs : AnfFrames} {slots : List Word} {top ms : List MacFrame} (r : Env) (t : ℕ) (ua : Word) (va : Value) (k : ℕ) (i : Item) →
      OpAt (captured_in p) (Apply f a q) b js gs o → slice_get x.regs 0 ≡ Some (W.Pointer t ad) → slice_get x.regs 1 ≡ Some ua → WRel w ua va → IsIn (Lk t ad l) w → slice_get x.st l ≡ Some i → t ≡ tag_of i →
      ORel p notes w x.heap Whole ad i →
      atom_values (gather (free_op (captured_in p) (Apply f a q)) r) (f ∷ a ∷ []) ≡ Some (At l ∷ va ∷ []) →
      ((z : ℕ) → IsIn z (values_locations (At l ∷ va ∷ [])) → IsIn z (below (length p.statics)) ⊎ IsIn z (values_locations (env_values (gather (free_op (captured_in p) (Apply f a q)) r)))) →
      Calls p (HasNote p notes) gs o old own → place_of c.places x.pc ≡ Some q →
      HasNote p notes x.pc (Inside (AtBlock b js) own old) → IsCut p notes (free p b) r → JRel js rs fr fs → Holds p x.st w (r ∷ rs) x.regs slots old →
      OwnRel own slots top ms → FsRel p notes w fs ms → length x.regs ≡ 17 → Memory p notes w Closed x.heap x.st x.globals x.ahead x.input x.cin x.met →
      Sim p notes limit (done p notes limit c x top I.Apply) k (source p notes limit x (Eval (InBlock b) r) fr)
  applied_at x {ad = ad} {l = l} r t ua va k i at e0 e1 uv lk there tg (o_cell {v = v} hd pr) values reach cs place here cut j h o2 fr len mem =
      applied_none x r (W.Pointer t ad) (At l) va k at e0 (no_procedure p notes limit (λ at. slice_get x.heap at) t ad i tg (n_cell v)) values (λ c e. rw (e, there) refl) place here cut j h o2 fr len mem
  applied_at x {ad = ad} {l = l} r t ua va k i at e0 e1 uv lk there tg (o_pair {u = u} {v = v} pr) values reach cs place here cut j h o2 fr len mem =
      applied_none x r (W.Pointer t ad) (At l) va k at e0 (no_procedure p notes limit (λ at. slice_get x.heap at) t ad i tg (n_object (Pair u v))) values (λ c e. rw (e, there) refl) place here cut j h o2 fr len mem
  applied_at x {ad = ad} {l = l} r t ua va k i at e0 e1 uv lk there tg (o_vector {vs = ws} few hd pr) values reach cs place here cut j h o2 fr len mem =
      applied_none x r (W.Pointer t ad) (At l) va k at e0 (no_procedure p notes limit (λ at. slice_get x.heap at) t ad i tg (n_object (Vec ws))) values (λ c e. rw (e, there) refl) place here cut j h o2 fr len mem
  applied_at x {ad = ad} {l = l} r t ua va k i at e0 e1 uv lk there tg (o_string {cs = ss} few hd pr) values reach cs place here cut j h o2 fr len mem =
      applied_none x r (W.Pointer t ad) (At l) va k at e0 (no_procedure p notes limit (λ at. slice_get x.heap at) t ad i tg (n_object (Str ss))) values (λ c e. rw (e, there) refl) place here cut j h o2 fr len mem
  applied_at x {ad = ad} {l = l} r t ua va k i at e0 e1 uv lk there tg (o_symbol {cs = ss} few hd pr) values reach cs place here cut j h o2 fr len mem =
      applied_none x r (W.Pointer t ad) (At l) va k at e0 (no_procedure p notes limit (λ at. slice_get x.heap at) t ad i tg (n_object (Sym ss))) values (λ c e. rw (e, there) refl) place here cut j h o2 fr len mem
  applied_at x {w = w} r t ua va k i at e0 e1 uv lk there tg (o_procedure m e caught hd cd note long er pr) values reach cs place here cut j h o2 fr len mem =
      applied_to x r t m e caught ua va _ _ k (walk_rel p notes w _ x.heap x.st mem.stores ua va uv) refl refl at e0 e1 lk tg (there ∙ ap (λ r. Some (Clo m r)) er) hd cd note long values reach cs place here cut j h o2 fr len mem

  applied : (x : Still) {w : World} {f a : Operand} {q : Place} {b : Block} {js gs : Waiting} {o : Option (List ℕ)}
      {own : Own} {old : List Entry} {rs : List Env} {fr fs : AnfFrames} {slots : List Word} {top ms : List MacFrame} (r : Env) (u ua : Word) (v va : Value) (k : ℕ) →
      Kind w u v → OpAt (captured_in p) (Apply f a q) b js gs o → slice_get x.regs 0 ≡ Some u → slice_get x.regs 1 ≡ Some ua → WRel w ua va →
      atom_values (gather (free_op (captured_in p) (Apply f a q)) r) (f ∷ a ∷ []) ≡ Some (v ∷ va ∷ []) →
      ((z : ℕ) → IsIn z (values_locations (v ∷ va ∷ [])) → IsIn z (below (length p.statics)) ⊎ IsIn z (values_locations (env_values (gather (free_op (captured_in p) (Apply f a q)) r)))) →
      Calls p (HasNote p notes) gs o old own → place_of c.places x.pc ≡ Some q →
      HasNote p notes x.pc (Inside (AtBlock b js) own old) → IsCut p notes (free p b) r → JRel js rs fr fs → Holds p x.st w (r ∷ rs) x.regs slots old →
      OwnRel own slots top ms → FsRel p notes w fs ms → length x.regs ≡ 17 → Memory p notes w Closed x.heap x.st x.globals x.ahead x.input x.cin x.met →
      Sim p notes limit (done p notes limit c x top I.Apply) k (source p notes limit x (Eval (InBlock b) r) fr)
  applied x {q = q} r u ua v va k (k_data no_object no_pair ne) at e0 e1 uv values reach cs place here cut j h o2 fr len mem =
      applied_none x r u v va k at e0 (no_object (λ at. slice_get x.heap at) procedure_tag procedure_kind) values (λ c e. apply_data c q v va c.frames x.es ne) place here cut j h o2 fr len mem
  applied x r u ua v va k (k_at {t = t} {a = ad} {l = l} i) at e0 e1 uv values reach cs place here cut j h o2 fr len mem =
      let d = mem.stores.linked t ad l i in
      applied_at x r t ua va k d.item at e0 e1 uv i d.there d.tag d.rel values reach cs place here cut j h o2 fr len mem

  pub step_apply : (x : Still) {w : World} {f a : Operand} {q : Place} {b : Block} {js gs : Waiting} {o : Option (List ℕ)}
      {own : Own} {old : List Entry} {rs : List Env} {fr fs : AnfFrames} {slots : List Word} {top ms : List MacFrame} (r : Env) (k : ℕ) →
      OpAt (captured_in p) (Apply f a q) b js gs o → Args old (0 ∷ 1 ∷ []) (f ∷ a ∷ []) →
      Calls p (HasNote p notes) gs o old own → ((q : Spot) (c : Const) → IsIn (Stands q (Constant c)) old → IsWritten p.statics c) → place_of c.places x.pc ≡ Some q →
      HasNote p notes x.pc (Inside (AtBlock b js) own old) → IsCut p notes (free p b) r → JRel js rs fr fs → Holds p x.st w (r ∷ rs) x.regs slots old →
      OwnRel own slots top ms → FsRel p notes w fs ms → length x.regs ≡ 17 → Memory p notes w Closed x.heap x.st x.globals x.ahead x.input x.cin x.met →
      Sim p notes limit (done p notes limit c x top I.Apply) k (source p notes limit x (Eval (InBlock b) r) fr)
  step_apply x {w = w} {f = f} {a = a} {q = q} {old = old} {rs = rs} {slots = slots} r k at (an_arg i (an_arg i2 no_args)) cs wr place here cut j h o2 fr len mem =
      let F = free_op (captured_in p) (Apply f a q) in
      let h0 = h.holds (Reg 0) (symbol_of f) i in
      let h1 = h.holds (Reg 1) (symbol_of a) i2 in
      let v0 = value-gather F r f (λ y i. in-left (free_of_atom f) (free_of_atom a) y i) ∙ atom_there p x.st w r rs x.regs slots old (Reg 0) f h0 in
      let v1 = value-gather F r a (λ y i. in-right (free_of_atom f) (free_of_atom a) y i) ∙ atom_there p x.st w r rs x.regs slots old (Reg 1) a h1 in
      applied x r h0.word h1.word h0.value h1.value k (kind_of w h0.word h0.value h0.rel) at h0.here h1.here h1.rel (rw (v0, v1) refl)
      (λ z j. ⊎_elim (λ g. operand_location p.statics old (Reg 0) f F r h0.value z wr i v0 g)
      (λ g. operand_location p.statics old (Reg 1) a F r h1.value z wr i2 v1 (⊎_elim (λ g. g) (λ g. absurd g) (in-cases (value_locations h1.value) [] z g)))
      (in-cases (value_locations h0.value) (value_locations h1.value ++ []) z j)) cs place here cut j h o2 fr len mem
