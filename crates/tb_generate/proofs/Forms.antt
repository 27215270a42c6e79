-- The items of blocks, by their form.
use Rattle.std.proofs.Common.{◌≡◌, refl, sym, ap, ◌∙◌, append_assoc, ℕ, suc, ◌+◌, Bool, List, [], ◌∷◌, ◌++◌, arith}
use Rattle.tb_prim.specs.declared.place.Place.{Place}
use Rattle.tb_prim.specs.declared.primitive.Primitive.{Primitive}
use Rattle.tb_ir.specs.AnfTree.{Operand, Block, Bind, CloseAll, Tail, Op, Atom, Global, SetGlobal, DefGlobal, PrimUse, NewCell, CellGet, CellSet, Close, Call, Direct, Apply, Branch}
use Rattle.tb_mac.specs.declared.item.Item.{Item}
use Rattle.tb_mac.specs.declared.item.Item.TheVariants.{Label}
use Rattle.tb_codegen.specs.Generate.{labels_in, labels_of}
use Rattle.tb_codegen.specs.Operations.{Body}
use Rattle.tb_generate.specs.declared.waiting.Ending.{Ending}
use Rattle.tb_generate.specs.calls.Items.{block_items, bound_items, tail_items, block_slots, bound_slots, arm_ending, test_items, plain_items, last_items, group_items, passing_items, passed_items}
use Rattle.tb_generate.proofs.Views.{viewing}

module _ (c : Body) where
  pub bind-items : (x : ℕ) (op : Op) (b : Block) (ws : List Bool) (e : Ending) (l : ℕ) →
      block_items c (Bind x op b) ws e l ≡ bound_items c op x b ws (block_slots c ws (Bind x op b)) l ++ block_items c b ws e (l + labels_of op)
  unfolding block_items
  bind-items x op b ws e l = refl

  pub group-of : (xs ls : List ℕ) (b : Block) (ws : List Bool) (e : Ending) (l : ℕ) →
      block_items c (CloseAll xs ls b) ws e l ≡ group_items c xs ls (block_slots c ws (CloseAll xs ls b)) ++ block_items c b ws e l
  unfolding block_items
  group-of xs ls b ws e l = refl

  pub tail-of : (op : Op) (ws : List Bool) (e : Ending) (l : ℕ) → block_items c (Tail op) ws e l ≡ tail_items c op ws (block_slots c ws (Tail op)) e l
  unfolding block_items
  tail-of op ws e l = refl

  pub bound-branch : (a : Operand) (b d : Block) (x : ℕ) (k : Block) (ws ss : List Bool) (l : ℕ) → bound_items c (Branch a b d) x k ws ss l ≡
      test_items c ss a (suc l) ++
      (block_items c b (bound_slots c ws x k) (arm_ending c ws x k l) (l + 2) ++
      (Label (suc l) ∷
      (block_items c d (bound_slots c ws x k) (arm_ending c ws x k l) (l + 2 + labels_in b) ++ (Label l ∷ []))))
  unfolding bound_items
  bound-branch a b d x k ws ss l = refl

  pub tail-branch : (a : Operand) (b d : Block) (ws ss : List Bool) (e : Ending) (l : ℕ) → tail_items c (Branch a b d) ws ss e l ≡
      test_items c ss a (suc l) ++
      (block_items c b ws e (l + 2) ++
      (passing_items e l ++ (Label (suc l) ∷ (block_items c d ws e (l + 2 + labels_in b) ++ passed_items e l))))
  unfolding tail_items
  tail-branch a b d ws ss e l = refl

  pub bound-atom : (a : Operand) (x : ℕ) (k : Block) (ws ss : List Bool) (l : ℕ) → bound_items c (Atom a) x k ws ss l ≡ plain_items c (Atom a) x (bound_slots c ws x k) l ss
  unfolding bound_items
  bound-atom a x k ws ss l = refl

  pub tail-atom : (a : Operand) (ws ss : List Bool) (e : Ending) (l : ℕ) → tail_items c (Atom a) ws ss e l ≡ last_items c (Atom a) ws e l ss
  unfolding tail_items
  tail-atom a ws ss e l = refl

  pub bound-global : (g : ℕ) (p : Place) (x : ℕ) (k : Block) (ws ss : List Bool) (l : ℕ) → bound_items c (Global g p) x k ws ss l ≡ plain_items c (Global g p) x (bound_slots c ws x k) l ss
  unfolding bound_items
  bound-global g p x k ws ss l = refl

  pub tail-global : (g : ℕ) (p : Place) (ws ss : List Bool) (e : Ending) (l : ℕ) → tail_items c (Global g p) ws ss e l ≡ last_items c (Global g p) ws e l ss
  unfolding tail_items
  tail-global g p ws ss e l = refl

  pub bound-set-global : (g : ℕ) (a : Operand) (p : Place) (x : ℕ) (k : Block) (ws ss : List Bool) (l : ℕ) → bound_items c (SetGlobal g a p) x k ws ss l ≡ plain_items c (SetGlobal g a p) x (bound_slots c ws x k) l ss
  unfolding bound_items
  bound-set-global g a p x k ws ss l = refl

  pub tail-set-global : (g : ℕ) (a : Operand) (p : Place) (ws ss : List Bool) (e : Ending) (l : ℕ) → tail_items c (SetGlobal g a p) ws ss e l ≡ last_items c (SetGlobal g a p) ws e l ss
  unfolding tail_items
  tail-set-global g a p ws ss e l = refl

  pub bound-def-global : (g : ℕ) (a : Operand) (x : ℕ) (k : Block) (ws ss : List Bool) (l : ℕ) → bound_items c (DefGlobal g a) x k ws ss l ≡ plain_items c (DefGlobal g a) x (bound_slots c ws x k) l ss
  unfolding bound_items
  bound-def-global g a x k ws ss l = refl

  pub tail-def-global : (g : ℕ) (a : Operand) (ws ss : List Bool) (e : Ending) (l : ℕ) → tail_items c (DefGlobal g a) ws ss e l ≡ last_items c (DefGlobal g a) ws e l ss
  unfolding tail_items
  tail-def-global g a ws ss e l = refl

  pub bound-prim : (q : Primitive) (ds : List Operand) (p : Place) (x : ℕ) (k : Block) (ws ss : List Bool) (l : ℕ) → bound_items c (PrimUse q ds p) x k ws ss l ≡ plain_items c (PrimUse q ds p) x (bound_slots c ws x k) l ss
  unfolding bound_items
  bound-prim q ds p x k ws ss l = refl

  pub tail-prim : (q : Primitive) (ds : List Operand) (p : Place) (ws ss : List Bool) (e : Ending) (l : ℕ) → tail_items c (PrimUse q ds p) ws ss e l ≡ last_items c (PrimUse q ds p) ws e l ss
  unfolding tail_items
  tail-prim q ds p ws ss e l = refl

  pub bound-new-cell : (a : Operand) (x : ℕ) (k : Block) (ws ss : List Bool) (l : ℕ) → bound_items c (NewCell a) x k ws ss l ≡ plain_items c (NewCell a) x (bound_slots c ws x k) l ss
  unfolding bound_items
  bound-new-cell a x k ws ss l = refl

  pub tail-new-cell : (a : Operand) (ws ss : List Bool) (e : Ending) (l : ℕ) → tail_items c (NewCell a) ws ss e l ≡ last_items c (NewCell a) ws e l ss
  unfolding tail_items
  tail-new-cell a ws ss e l = refl

  pub bound-cell-get : (a : Operand) (p : Place) (x : ℕ) (k : Block) (ws ss : List Bool) (l : ℕ) → bound_items c (CellGet a p) x k ws ss l ≡ plain_items c (CellGet a p) x (bound_slots c ws x k) l ss
  unfolding bound_items
  bound-cell-get a p x k ws ss l = refl

  pub tail-cell-get : (a : Operand) (p : Place) (ws ss : List Bool) (e : Ending) (l : ℕ) → tail_items c (CellGet a p) ws ss e l ≡ last_items c (CellGet a p) ws e l ss
  unfolding tail_items
  tail-cell-get a p ws ss e l = refl

  pub bound-cell-set : (a b : Operand) (x : ℕ) (k : Block) (ws ss : List Bool) (l : ℕ) → bound_items c (CellSet a b) x k ws ss l ≡ plain_items c (CellSet a b) x (bound_slots c ws x k) l ss
  unfolding bound_items
  bound-cell-set a b x k ws ss l = refl

  pub tail-cell-set : (a b : Operand) (ws ss : List Bool) (e : Ending) (l : ℕ) → tail_items c (CellSet a b) ws ss e l ≡ last_items c (CellSet a b) ws e l ss
  unfolding tail_items
  tail-cell-set a b ws ss e l = refl

  pub bound-close : (m : ℕ) (x : ℕ) (k : Block) (ws ss : List Bool) (l : ℕ) → bound_items c (Close m) x k ws ss l ≡ plain_items c (Close m) x (bound_slots c ws x k) l ss
  unfolding bound_items
  bound-close m x k ws ss l = refl

  pub tail-close : (m : ℕ) (ws ss : List Bool) (e : Ending) (l : ℕ) → tail_items c (Close m) ws ss e l ≡ last_items c (Close m) ws e l ss
  unfolding tail_items
  tail-close m ws ss e l = refl

  pub bound-call : (f : Operand) (ds : List Operand) (p : Place) (x : ℕ) (k : Block) (ws ss : List Bool) (l : ℕ) → bound_items c (Call f ds p) x k ws ss l ≡ plain_items c (Call f ds p) x (bound_slots c ws x k) l ss
  unfolding bound_items
  bound-call f ds p x k ws ss l = refl

  pub tail-call : (f : Operand) (ds : List Operand) (p : Place) (ws ss : List Bool) (e : Ending) (l : ℕ) → tail_items c (Call f ds p) ws ss e l ≡ last_items c (Call f ds p) ws e l ss
  unfolding tail_items
  tail-call f ds p ws ss e l = refl

  pub bound-direct : (m : ℕ) (ds : List Operand) (x : ℕ) (k : Block) (ws ss : List Bool) (l : ℕ) → bound_items c (Direct m ds) x k ws ss l ≡ plain_items c (Direct m ds) x (bound_slots c ws x k) l ss
  unfolding bound_items
  bound-direct m ds x k ws ss l = refl

  pub tail-direct : (m : ℕ) (ds : List Operand) (ws ss : List Bool) (e : Ending) (l : ℕ) → tail_items c (Direct m ds) ws ss e l ≡ last_items c (Direct m ds) ws e l ss
  unfolding tail_items
  tail-direct m ds ws ss e l = refl

  pub bound-apply : (f a : Operand) (p : Place) (x : ℕ) (k : Block) (ws ss : List Bool) (l : ℕ) → bound_items c (Apply f a p) x k ws ss l ≡ plain_items c (Apply f a p) x (bound_slots c ws x k) l ss
  unfolding bound_items
  bound-apply f a p x k ws ss l = refl

  pub tail-apply : (f a : Operand) (p : Place) (ws ss : List Bool) (e : Ending) (l : ℕ) → tail_items c (Apply f a p) ws ss e l ≡ last_items c (Apply f a p) ws e l ss
  unfolding tail_items
  tail-apply f a p ws ss e l = refl

  five_parts : (u v w m n : List Item) (cs ds es fs gs hs : List Item) → ds ≡ cs ++ u → es ≡ ds ++ v → fs ≡ es ++ w → gs ≡ fs ++ m → hs ≡ gs ++ n →
      hs ≡ cs ++ (u ++ (v ++ (w ++ (m ++ n))))
  five_parts u v w m n cs ds es fs gs hs p q r s t =
      t ∙ ap (λ k. k ++ n) (s ∙ ap (λ k. k ++ m) (r ∙ ap (λ k. k ++ w) (q ∙ ap (λ k. k ++ v) p)))
      ∙ append_assoc (((cs ++ u) ++ v) ++ w) m n ∙ append_assoc ((cs ++ u) ++ v) w (m ++ n) ∙ append_assoc (cs ++ u) v (w ++ (m ++ n)) ∙ append_assoc cs u (v ++ (w ++ (m ++ n)))

  -- a branch from its parts
  pub bound-parts : (op : Op) (a : Operand) (b d : Block) (x : ℕ) (k : Block) (ws ss vs : List Bool) (arm : Ending) (l own second m n : ℕ) (cs ds es fs gs hs : List Item) →
      op ≡ Branch a b d → own ≡ l → second ≡ l + 1 → m ≡ l + 2 → n ≡ m + labels_in b → vs ≡ bound_slots c ws x k → arm ≡ arm_ending c ws x k own →
      ds ≡ cs ++ test_items c ss a second → es ≡ ds ++ block_items c b vs arm m → fs ≡ es ++ Label second ∷ [] →
      gs ≡ fs ++ block_items c d vs arm n → hs ≡ gs ++ Label own ∷ [] → hs ≡ cs ++ bound_items c op x k ws ss l
  bound-parts op a b d x k ws ss vs arm l own second m n cs ds es fs gs hs o w s2 s3 s4 v e p q r s t =
      let two : second ≡ suc l = omega (arith, s2) in
      let four : n ≡ l + 2 + labels_in b = s4 ∙ ap (λ i. i + labels_in b) s3 in
      let arm-is : arm ≡ arm_ending c ws x k l = e ∙ ap (arm_ending c ws x k) w in
      five_parts _ _ _ _ _ cs ds es fs gs hs (p ∙ ap (λ i. cs ++ test_items c ss a i) two)
      (q ∙ ap (λ i. ds ++ block_items c b vs arm i) s3 ∙ ap (λ us. ds ++ block_items c b us arm (l + 2)) v ∙ ap (λ u. ds ++ block_items c b (bound_slots c ws x k) u (l + 2)) arm-is)
      (r ∙ ap (λ i. es ++ Label i ∷ []) two)
      (s ∙ ap (λ i. fs ++ block_items c d vs arm i) four ∙ ap (λ us. fs ++ block_items c d us arm (l + 2 + labels_in b)) v ∙ ap (λ u. fs ++ block_items c d (bound_slots c ws x k) u (l + 2 + labels_in b)) arm-is)
      (t ∙ ap (λ i. gs ++ Label i ∷ []) w)
      ∙ ap (λ is. cs ++ is) (sym (bound-branch a b d x k ws ss l)) ∙ ap (λ z. cs ++ bound_items c z x k ws ss l) (sym o)

  six_parts : (u v w m n o : List Item) (cs ds es fs gs hs is : List Item) → ds ≡ cs ++ u → es ≡ ds ++ v → fs ≡ es ++ w → gs ≡ fs ++ m → hs ≡ gs ++ n → is ≡ hs ++ o →
      is ≡ cs ++ (u ++ (v ++ (w ++ (m ++ (n ++ o)))))
  six_parts u v w m n o cs ds es fs gs hs is p q r s t z =
      five_parts u v w m (n ++ o) cs ds es fs gs is p q r s (z ∙ ap (λ k. k ++ o) t ∙ append_assoc gs n o)

  pub tail-parts : (op : Op) (a : Operand) (b d : Block) (ws ss : List Bool) (e : Ending) (l own second m n : ℕ) (cs ds es fs gs hs is : List Item) →
      op ≡ Branch a b d → own ≡ l → second ≡ l + 1 → m ≡ l + 2 → n ≡ m + labels_in b →
      ds ≡ cs ++ test_items c ss a second → es ≡ ds ++ block_items c b ws e m → fs ≡ es ++ passing_items e own → gs ≡ fs ++ Label second ∷ [] →
      hs ≡ gs ++ block_items c d ws e n → is ≡ hs ++ passed_items e own → is ≡ cs ++ tail_items c op ws ss e l
  tail-parts op a b d ws ss e l own second m n cs ds es fs gs hs is o w s2 s3 s4 p q r s t z =
      let two : second ≡ suc l = omega (arith, s2) in
      let four : n ≡ l + 2 + labels_in b = s4 ∙ ap (λ i. i + labels_in b) s3 in
      six_parts _ _ _ _ _ _ cs ds es fs gs hs is (p ∙ ap (λ i. cs ++ test_items c ss a i) two)
      (q ∙ ap (λ i. ds ++ block_items c b ws e i) s3) (r ∙ ap (λ i. es ++ passing_items e i) w) (s ∙ ap (λ i. fs ++ Label i ∷ []) two)
      (t ∙ ap (λ i. gs ++ block_items c d ws e i) four) (z ∙ ap (λ i. hs ++ passed_items e i) w)
      ∙ ap (λ is. cs ++ is) (sym (tail-branch a b d ws ss e l)) ∙ ap (λ y. cs ++ tail_items c y ws ss e l) (sym o)

pub ruleset making = (viewing, bind-items, group-of, tail-of, bound-atom, tail-atom, bound-global, tail-global, bound-set-global, tail-set-global, bound-def-global, tail-def-global, bound-prim, tail-prim, bound-new-cell, tail-new-cell, bound-cell-get, tail-cell-get, bound-cell-set, tail-cell-set, bound-close, tail-close, bound-call, tail-call, bound-direct, tail-direct, bound-apply, tail-apply)
