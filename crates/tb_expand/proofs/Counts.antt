-- Static objects are counted up.
use Rattle.std.proofs.Common.{◌≡◌, sym, ap, ◌∙◌, ℕ, suc, ◌+◌, ◌<◌, ◌≤◌, arith, nat_le, ◌&&◌, Bool, true, false, List, length, drop, drop-cons, get_or, bytes_eq, Some}
use Rattle.std.specs.List.{list_any}
use Rattle.tb_sexp.specs.declared.datum.Datum.{Datum}
use Rattle.tb_sexp.specs.declared.datum.Node.TheFolds.{fold-roll-Node}
use Rattle.tb_sexp.specs.declared.datum.Node.TheOpen.{Node-F}
use Rattle.tb_sexp.specs.declared.datum.Node.TheVariants as node
use Rattle.tb_sexp.specs.declared.datum.Node.TheVariants.{rolls-List}
use Rattle.tb_sexp.specs.Tree as datum
use Rattle.tb_sexp.specs.View as data_view
use Rattle.tb_expand.specs.Scopes.{State}
use Rattle.tb_expand.specs.Limits.{one_object, symbol_object, byte_words, even, how_many_data, with_objects, with_objects_of, with_pairs, with_each, has_room}
use Rattle.tb_expand.specs.View.{data_of, IsCounted}

pub record Grows (st st' : State) : Type 0 where
  pub objects : st.objects ≤ st'.objects
  pub words : st.words ≤ st'.words

then : (a b c : State) → Grows a b → Grows b c → Grows a c
then a b c p q = let x = p.objects in let y = q.objects in let z = p.words in let w = q.words in record { objects = omega arith; words = omega arith }

same : (st : State) → Grows st st
same st = record { objects = omega arith; words = omega arith }

one : (w : ℕ) (st : State) → Grows st (one_object w st)
one w st = record { objects = omega arith; words = omega arith }

symbol : (b : Bool) (s : List ℕ) (st : State) → Grows st (symbol_object b s st)
symbol true s st = same st
symbol false s st = record { objects = omega arith; words = omega arith }

mutual
  pub grows : (d : datum.Tree) (st : State) → Grows st (with_objects d st)
  grows (datum.At p s) st = grows_in s st

  pub grows_in : (s : datum.Shape) (st : State) → Grows st (with_objects_of s st)
  grows_in datum.Nil st = same st
  grows_in (datum.Truth b) st = same st
  grows_in (datum.Fixnum n) st = same st
  grows_in (datum.Character c) st = same st
  grows_in (datum.String s) st = one (byte_words s) st
  grows_in (datum.Name s alias) st = symbol (list_any (bytes_eq s) st.symbols) s st
  grows_in (datum.Proper ds) st = grows_pairs ds st
  grows_in (datum.Dotted ds d) st = then st (with_pairs ds st) (with_objects d (with_pairs ds st)) (grows_pairs ds st) (grows d (with_pairs ds st))
  grows_in (datum.Vector ds) st =
      let w : ℕ = even (1 + how_many_data ds) in
      then st (one_object w st) (with_each ds (one_object w st)) (one w st) (grows_each ds (one_object w st))

  pub grows_pairs : (ds : datum.Trees) (st : State) → Grows st (with_pairs ds st)
  grows_pairs datum.none st = same st
  grows_pairs (datum.more d ds) st =
      let a : State = one_object 2 st in
      let b : State = with_objects d a in
      then st a (with_pairs ds b) (one 2 st) (then a b (with_pairs ds b) (grows d a) (grows_pairs ds b))

  pub grows_each : (ds : datum.Trees) (st : State) → Grows st (with_each ds st)
  grows_each datum.none st = same st
  grows_each (datum.more d ds) st = then st (with_objects d st) (with_each ds (with_objects d st)) (grows d st) (grows_each ds (with_objects d st))

over : (a b c d : ℕ) → a ≤ b → c ≤ d → (nat_le a 1000000 && nat_le c 4194304) ≡ false → (nat_le b 1000000 && nat_le d 4194304) ≡ false
over a b c d p q e = grind arith

-- what has no room has none with more
pub no_room : (st st' : State) → Grows st st' → has_room st ≡ false → has_room st' ≡ false
no_room st st' g e = over st.objects st'.objects st.words st'.words g.objects g.words e

pub not_counted : (b : Bool) (w g : State) → b ≡ false → IsCounted b w g → has_room w ≡ false
not_counted false w g e h = h
not_counted true w g e h = cc

-- an element that has no room, and those behind it
pub pair_past : (ds : List Datum) (i : ℕ) (d : Datum) (st : State) → i < length ds → d ≡ get_or ds i d → has_room (one_object 2 st) ≡ false → has_room (with_pairs (data_of (drop i ds)) st) ≡ false
pair_past ds i d st lt is e =
    let a : State = one_object 2 st in
    let rest : datum.Trees = data_of (drop (suc i) ds) in
    ap (λ xs. has_room (with_pairs (data_of xs) st)) (drop-cons ds i d lt)
    ∙ no_room a (with_pairs rest (with_objects (data_view.view (get_or ds i d)) a))
    (then a (with_objects (data_view.view (get_or ds i d)) a) (with_pairs rest (with_objects (data_view.view (get_or ds i d)) a)) (grows (data_view.view (get_or ds i d)) a)
    (grows_pairs rest (with_objects (data_view.view (get_or ds i d)) a))) e

pub pair_inside_past : (ds : List Datum) (i : ℕ) (d : Datum) (st : State) → i < length ds → d ≡ get_or ds i d → has_room (with_objects (data_view.view d) (one_object 2 st)) ≡ false →
    has_room (with_pairs (data_of (drop i ds)) st) ≡ false
pair_inside_past ds i d st lt is e =
    let rest : datum.Trees = data_of (drop (suc i) ds) in
    ap (λ xs. has_room (with_pairs (data_of xs) st)) (drop-cons ds i d lt)
    ∙ ap (λ d. has_room (with_pairs rest (with_objects (data_view.view d) (one_object 2 st)))) (sym is)
    ∙ no_room (with_objects (data_view.view d) (one_object 2 st)) (with_pairs rest (with_objects (data_view.view d) (one_object 2 st))) (grows_pairs rest (with_objects (data_view.view d) (one_object 2 st))) e

pub each_past : (ds : List Datum) (i : ℕ) (d : Datum) (st : State) → i < length ds → d ≡ get_or ds i d → has_room (with_objects (data_view.view d) st) ≡ false →
    has_room (with_each (data_of (drop i ds)) st) ≡ false
each_past ds i d st lt is e =
    let rest : datum.Trees = data_of (drop (suc i) ds) in
    ap (λ xs. has_room (with_each (data_of xs) st)) (drop-cons ds i d lt)
    ∙ ap (λ d. has_room (with_each rest (with_objects (data_view.view d) st))) (sym is)
    ∙ no_room (with_objects (data_view.view d) st) (with_each rest (with_objects (data_view.view d) st)) (grows_each rest (with_objects (data_view.view d) st)) e

pub tail_past : (d : datum.Tree) (st : State) → has_room st ≡ false → has_room (with_objects d st) ≡ false
tail_past d st e = no_room st (with_objects d st) (grows d st) e

pub rest_past : (ds : datum.Trees) (st : State) → has_room st ≡ false → has_room (with_each ds st) ≡ false
rest_past ds st e = no_room st (with_each ds st) (grows_each ds st) e

pub view_dotted : (ds : List Datum) (d : Datum) → data_view.view_node (node.List ds (Some d)) ≡ datum.Dotted (data_of ds) (data_view.view d)
view_dotted ds d = ap data_view.view_node (sym (rolls-List ds (Some d))) ∙ fold-roll-Node datum.Shape datum.Tree data_view.view_in data_view.view_at (Node-F.List ds (Some d))
