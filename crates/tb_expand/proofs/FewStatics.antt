-- The static objects of nodes weigh no more than their quoted data, in which each symbol weighs once.
use Rattle.std.proofs.Common.{◌≡◌, refl, sym, ap, subst, ◌∙◌, ℕ, ◌+◌, ◌≤◌, ◌||◌, arith, not, Bool, true, false, cond, List, [], ◌∷◌, ◌++◌, length, bytes_eq}
use Rattle.std.specs.List.{list_any}
use Rattle.std.proofs.lemmas.List.Folds.{list_any-append}
use Rattle.std.proofs.lemmas.Slice.Eq.{bytes_eq-Decides}
use Rattle.tb_prim.specs.declared.constant.Const.{Const}
use Rattle.tb_prim.specs.declared.constant.Static.{Static}
use Rattle.tb_sexp.specs.Tree as datum
use Rattle.tb_expand.specs.Trees.{Node, At, Core, Constant, Unspecified, Undefined, Local, Global, Lambda, If, SetLocal, SetGlobal, DefGlobal, Let, Letrec, Seq, Call, PrimUse, Apply, Nodes, nil, cons}
use Rattle.tb_expand.specs.Closed.{one_if}
use Rattle.tb_expand.specs.Limits.{even, byte_words, how_many_data}
use Rattle.tb_expand.specs.Numbers.{Placed, unplaced, is_symbol, placed_symbol, placed, placed_in, placed_pairs, placed_all, statics_of, statics_in, statics_of_all}
use Rattle.tb_expand.specs.StaticWords.{words_of_static, words_of_statics}
use Rattle.tb_expand.proofs.FirstOccurrences.{or_right}
use Rattle.tb_expand.proofs.NodeWeights.{weigh, weigh_in, weigh_all}
use Rattle.tb_expand.proofs.QuotedWeights.{scaled, symbols_weigh, plain, plain_in, plain_pairs, plain_each, unknown, unknown_in, unknown_each}

counted_data : (o : List Static) (ds : datum.Trees) → length (placed_all o ds).constants ≡ how_many_data ds
counted_data o datum.none = refl
counted_data o (datum.more d ds) = let h = counted_data (placed o d).statics ds in omega arith

surely : (b : Bool) → one_if (not b) ≡ 0 → b ≡ true
surely true h = refl
surely false h = absurd (omega arith)

less_either : (a b : Bool) (w : ℕ) → cond (a || b) 0 w ≤ cond a 0 w
less_either true b w = omega arith
less_either false true w = omega arith
less_either false false w = omega arith

module _ (words : Bool) where
  abbrev pub statics_weigh : List Static → ℕ
  statics_weigh [] = 0
  statics_weigh (s ∷ o) = scaled words (words_of_static s) + statics_weigh o

  weigh_behind : (o : List Static) (s : Static) → statics_weigh (o ++ s ∷ []) ≡ statics_weigh o + scaled words (words_of_static s)
  weigh_behind [] s = omega arith
  weigh_behind (x ∷ o) s = let h = weigh_behind o s in omega arith

  -- what the symbols weigh that are no static objects yet
  abbrev missing : List Static → List (List ℕ) → ℕ
  missing o [] = 0
  missing o (y ∷ ys) = cond (list_any (is_symbol y) o) 0 (scaled words (byte_words y)) + missing o ys

  missing_one : (o : List Static) (s : Static) (y : List ℕ) (w : ℕ) → cond (list_any (is_symbol y) (o ++ s ∷ [])) 0 w ≤ cond (list_any (is_symbol y) o) 0 w
  missing_one o s y w =
      let e = ap (λ b. cond b 0 w) (list_any-append (is_symbol y) o (s ∷ [])) in
      let h = less_either (list_any (is_symbol y) o) (list_any (is_symbol y) (s ∷ [])) w in
      omega arith

  missing_less : (o : List Static) (s : Static) (ys : List (List ℕ)) → missing (o ++ s ∷ []) ys ≤ missing o ys
  missing_less o s [] = omega arith
  missing_less o s (y ∷ ys) = let h = missing_one o s y (scaled words (byte_words y)) in let k = missing_less o s ys in omega arith

  found_itself : (o : List Static) (x : List ℕ) (ys : List (List ℕ)) → list_any (is_symbol x) o ≡ false →
      missing (o ++ Static.Sym x ∷ []) (x ∷ ys) + scaled words (byte_words x) ≤ missing o (x ∷ ys)
  found_itself o x ys h =
      let w = scaled words (byte_words x) in
      let same : list_any (is_symbol x) (Static.Sym x ∷ []) ≡ true = ap (λ b. b || false) ((bytes_eq-Decides x x).1 refl) in
      let new = list_any-append (is_symbol x) o (Static.Sym x ∷ []) ∙ or_right (list_any (is_symbol x) o) (list_any (is_symbol x) (Static.Sym x ∷ [])) same in
      let a : cond (list_any (is_symbol x) (o ++ Static.Sym x ∷ [])) 0 w ≡ 0 = ap (λ b. cond b 0 w) new in
      let b : cond (list_any (is_symbol x) o) 0 w ≡ w = ap (λ b. cond b 0 w) h in
      let k = missing_less o (Static.Sym x) ys in
      omega arith

  found_by : (o : List Static) (x y : List ℕ) (ys : List (List ℕ)) (b : Bool) → bytes_eq x y ≡ b → list_any (is_symbol x) o ≡ false → (bytes_eq x y || list_any (bytes_eq x) ys) ≡ true →
      (list_any (bytes_eq x) ys ≡ true → missing (o ++ Static.Sym x ∷ []) ys + scaled words (byte_words x) ≤ missing o ys) →
      missing (o ++ Static.Sym x ∷ []) (y ∷ ys) + scaled words (byte_words x) ≤ missing o (y ∷ ys)
  found_by o x y ys true e h k f =
      subst (λ (z : List ℕ). missing (o ++ Static.Sym x ∷ []) (z ∷ ys) + scaled words (byte_words x) ≤ missing o (z ∷ ys)) ((bytes_eq-Decides x y).0 e) (found_itself o x ys h)
  found_by o x y ys false e h k f =
      let r = f (sym (ap (λ b. b || list_any (bytes_eq x) ys) e) ∙ k) in
      let m = missing_one o (Static.Sym x) y (scaled words (byte_words y)) in
      omega arith

  found : (o : List Static) (x : List ℕ) (ys : List (List ℕ)) → list_any (is_symbol x) o ≡ false → list_any (bytes_eq x) ys ≡ true →
      missing (o ++ Static.Sym x ∷ []) ys + scaled words (byte_words x) ≤ missing o ys
  found o x [] h k = absurd cc
  found o x (y ∷ ys) h k = found_by o x y ys (bytes_eq x y) refl h k (found o x ys h)

  none_missing : (ys : List (List ℕ)) → missing [] ys ≡ symbols_weigh words ys
  none_missing [] = refl
  none_missing (y ∷ ys) = let h = none_missing ys in omega arith

module _ (words : Bool) (all : List (List ℕ)) where
  -- the objects that there are, and the symbols that are none yet
  abbrev wanted : List Static → ℕ
  wanted o = statics_weigh words o + missing words o all

  object_wanted : (o : List Static) (s : Static) → wanted (o ++ s ∷ []) ≤ wanted o + scaled words (words_of_static s)
  object_wanted o s = let h = weigh_behind words o s in let k = missing_less words o s all in omega arith

  symbol_wanted : (b : Bool) (o : List Static) (x : List ℕ) → list_any (is_symbol x) o ≡ b → one_if (not (list_any (bytes_eq x) all)) ≡ 0 → wanted (placed_symbol b o x).statics ≤ wanted o
  symbol_wanted true o x e h = omega arith
  symbol_wanted false o x e h =
      let i = weigh_behind words o (Static.Sym x) in
      let k = found words o x all e (surely (list_any (bytes_eq x) all) h) in
      omega arith

  mutual
    datum_wanted : (o : List Static) (d : datum.Tree) → unknown all d ≡ 0 → wanted (placed o d).statics ≤ wanted o + plain words d
    datum_wanted o (datum.At p s) h = shape_wanted o s h

    shape_wanted : (o : List Static) (s : datum.Shape) → unknown_in all s ≡ 0 → wanted (placed_in o s).statics ≤ wanted o + plain_in words s
    shape_wanted o datum.Nil h = omega arith
    shape_wanted o (datum.Truth b) h = omega arith
    shape_wanted o (datum.Fixnum n) h = omega arith
    shape_wanted o (datum.Character c) h = omega arith
    shape_wanted o (datum.String s) h = object_wanted o (Static.Str s)
    shape_wanted o (datum.Name s alias) h = let k = symbol_wanted (list_any (is_symbol s) o) o s refl h in omega arith
    shape_wanted o (datum.Proper ds) h = let k = pairs_wanted o ds (λ r. unplaced r Const.Nil) 0 (λ r. omega arith) h in omega arith
    shape_wanted o (datum.Dotted ds d) h = pairs_wanted o ds (λ r. placed r d) (plain words d) (λ r. datum_wanted r d (omega arith)) (omega arith)
    shape_wanted o (datum.Vector ds) h =
        let a = each_wanted o ds h in
        let b = object_wanted (placed_all o ds).statics (Static.Vector (placed_all o ds).constants) in
        let c = ap (λ n. scaled words (even (1 + n))) (counted_data o ds) in
        omega arith

    pairs_wanted : (o : List Static) (ds : datum.Trees) (tail : List Static → Placed) (n : ℕ) → ((r : List Static) → wanted (tail r).statics ≤ wanted r + n) → unknown_each all ds ≡ 0 → wanted (placed_pairs o ds tail).statics ≤ wanted o + (plain_pairs words ds + n)
    pairs_wanted o datum.none tail n t h = let k = t o in omega arith
    pairs_wanted o (datum.more d ds) tail n t h =
        let a = datum_wanted o d (omega arith) in
        let b = pairs_wanted (placed o d).statics ds tail n t (omega arith) in
        let r = placed_pairs (placed o d).statics ds tail in
        let c = object_wanted r.statics (Static.Pair (placed o d).constant r.constant) in
        omega arith

    each_wanted : (o : List Static) (ds : datum.Trees) → unknown_each all ds ≡ 0 → wanted (placed_all o ds).statics ≤ wanted o + plain_each words ds
    each_wanted o datum.none h = omega arith
    each_wanted o (datum.more d ds) h =
        let a = datum_wanted o d (omega arith) in
        let b = each_wanted (placed o d).statics ds (omega arith) in
        omega arith

  mutual
    node_wanted : (o : List Static) (e : Node) → weigh (unknown_in all) e ≡ 0 → wanted (statics_of o e) ≤ wanted o + weigh (plain_in words) e
    node_wanted o (At p c) h = core_wanted o c h

    core_wanted : (o : List Static) (c : Core) → weigh_in (unknown_in all) c ≡ 0 → wanted (statics_in o c) ≤ wanted o + weigh_in (plain_in words) c
    core_wanted o (Constant s) h = shape_wanted o s h
    core_wanted o Unspecified h = omega arith
    core_wanted o Undefined h = omega arith
    core_wanted o (Local x) h = omega arith
    core_wanted o (Global g) h = omega arith
    core_wanted o (Lambda xs r e) h = node_wanted o e h
    core_wanted o (If a c d) h =
        let x = node_wanted o a (omega arith) in
        let y = node_wanted (statics_of o a) c (omega arith) in
        let z = node_wanted (statics_of (statics_of o a) c) d (omega arith) in
        omega arith
    core_wanted o (SetLocal x e) h = node_wanted o e h
    core_wanted o (SetGlobal q g e) h = node_wanted o e h
    core_wanted o (DefGlobal g e) h = node_wanted o e h
    core_wanted o (Let xs es e) h = let x = nodes_wanted o es (omega arith) in let y = node_wanted (statics_of_all o es) e (omega arith) in omega arith
    core_wanted o (Letrec xs es e) h = let x = nodes_wanted o es (omega arith) in let y = node_wanted (statics_of_all o es) e (omega arith) in omega arith
    core_wanted o (Seq es) h = nodes_wanted o es h
    core_wanted o (Call f es) h = let x = node_wanted o f (omega arith) in let y = nodes_wanted (statics_of o f) es (omega arith) in omega arith
    core_wanted o (PrimUse q es) h = nodes_wanted o es h
    core_wanted o (Apply f l) h = let x = node_wanted o f (omega arith) in let y = node_wanted (statics_of o f) l (omega arith) in omega arith

    nodes_wanted : (o : List Static) (es : Nodes) → weigh_all (unknown_in all) es ≡ 0 → wanted (statics_of_all o es) ≤ wanted o + weigh_all (plain_in words) es
    nodes_wanted o nil h = omega arith
    nodes_wanted o (cons e es) h = let x = node_wanted o e (omega arith) in let y = nodes_wanted (statics_of o e) es (omega arith) in omega arith

  pub statics_light : (es : Nodes) → weigh_all (unknown_in all) es ≡ 0 → statics_weigh words (statics_of_all [] es) ≤ symbols_weigh words all + weigh_all (plain_in words) es
  statics_light es h = let k = nodes_wanted [] es h in let n = none_missing words all in omega arith

-- the weights are the number of objects and their words
pub weigh_ones : (o : List Static) → statics_weigh false o ≡ length o
weigh_ones [] = refl
weigh_ones (s ∷ o) = let h = weigh_ones o in omega arith

pub weigh_words : (o : List Static) → statics_weigh true o ≡ words_of_statics o
weigh_words [] = refl
weigh_words (s ∷ o) = let h = weigh_words o in omega arith
