-- Rows of data as plain data.
use Rattle.std.proofs.Common.{◌≡◌, refl, sym, ap, ◌∙◌, ℕ, zero, suc, ◌+◌, ◌<◌, ◌≤◌, arith, List, [], ◌∷◌, ◌++◌, length, map, drop, drop-cons, get_or, append_assoc, add-one, Option, Some, None}
use Rattle.std.proofs.lemmas.List.{map-append}
use Rattle.tb_sexp.specs.declared.datum.Datum.{Datum}
use Rattle.tb_sexp.specs.Tree as datum
use Rattle.tb_sexp.specs.View as data_view
use Rattle.tb_expand.specs.Names.{Binder}
use Rattle.tb_expand.specs.declared.shapes.Binder.{Binder as BinderCode}
use Rattle.tb_expand.specs.Shapes.{binder_of, binders_of, and_binder}
use Rattle.tb_expand.specs.declared.shapes.Pair.{Pair as PairCode}
use Rattle.tb_expand.specs.Shapes.{Pairs, pair_in, pairs_of, and_pair, elements_of}
use Rattle.tb_expand.specs.View.{data_of, view_binder, view_pair, view_pairs, NoBody}

pub one_datum : (ds : List Datum) (a : Datum) → length ds ≡ 1 → data_of ds ≡ datum.more (data_view.view (get_or ds 0 a)) datum.none
one_datum [] a h = absurd (omega arith)
one_datum (x ∷ []) a h = refl
one_datum (x ∷ y ∷ ds) a h = absurd (omega arith)

pub two_data : (ds : List Datum) (a b : Datum) → length ds ≡ 2 → data_of ds ≡ datum.more (data_view.view (get_or ds 0 a)) (datum.more (data_view.view (get_or ds 1 b)) datum.none)
two_data [] a b h = absurd (omega arith)
two_data (x ∷ []) a b h = absurd (omega arith)
two_data (x ∷ y ∷ []) a b h = refl
two_data (x ∷ y ∷ z ∷ ds) a b h = absurd (omega arith)

pub three_data : (ds : List Datum) (a b c : Datum) → length ds ≡ 3 →
    data_of ds ≡ datum.more (data_view.view (get_or ds 0 a)) (datum.more (data_view.view (get_or ds 1 b)) (datum.more (data_view.view (get_or ds 2 c)) datum.none))
three_data [] a b c h = absurd (omega arith)
three_data (x ∷ []) a b c h = absurd (omega arith)
three_data (x ∷ y ∷ []) a b c h = absurd (omega arith)
three_data (x ∷ y ∷ z ∷ []) a b c h = refl
three_data (x ∷ y ∷ z ∷ w ∷ ds) a b c h = absurd (omega arith)

pub more_data : (ds : List Datum) → 3 < length ds → (a b c d : datum.Tree) × (es : datum.Trees) × (data_of ds ≡ datum.more a (datum.more b (datum.more c (datum.more d es))))
more_data [] h = absurd (omega arith)
more_data (x ∷ []) h = absurd (omega arith)
more_data (x ∷ y ∷ []) h = absurd (omega arith)
more_data (x ∷ y ∷ z ∷ []) h = absurd (omega arith)
more_data (x ∷ y ∷ z ∷ w ∷ ds) h = (data_view.view x, data_view.view y, data_view.view z, data_view.view w, data_of ds, refl)

pub no_data : (ds : List Datum) → length ds ≡ 0 → data_of ds ≡ datum.none
no_data [] h = refl
no_data (x ∷ ds) h = absurd (omega arith)

-- binders before others, if there are any
abbrev pub before_binders : List Binder → Option (List Binder) → Option (List Binder)
before_binders xs None = None
before_binders xs (Some ys) = Some (xs ++ ys)

before_more : (xs : List Binder) (b : Binder) (o : Option (List Binder)) → before_binders (xs ++ b ∷ []) o ≡ before_binders xs (and_binder (Some b) o)
before_more xs b None = refl
before_more xs b (Some ys) = ap Some (append_assoc xs (b ∷ []) ys)

pub binder_put : (ds : List Datum) (i : ℕ) (d : Datum) (b : BinderCode) (bs new : List BinderCode) → i < length ds → d ≡ get_or ds i d → binder_of (data_view.view d) ≡ Some (view_binder b) → new ≡ bs ++ b ∷ [] →
    before_binders (map view_binder new) (binders_of (data_of (drop (i + 1) ds))) ≡ before_binders (map view_binder bs) (binders_of (data_of (drop i ds)))
binder_put ds i d b bs new lt is e n =
    let rest : Option (List Binder) = binders_of (data_of (drop (suc i) ds)) in
    ap (λ k. before_binders (map view_binder new) (binders_of (data_of (drop k ds)))) (add-one i)
    ∙ ap (λ xs. before_binders xs rest) (ap (map view_binder) n ∙ map-append view_binder bs (b ∷ []))
    ∙ before_more (map view_binder bs) (view_binder b) rest
    ∙ ap (λ o. before_binders (map view_binder bs) (and_binder o rest)) (sym e ∙ ap (λ d. binder_of (data_view.view d)) is)
    ∙ ap (λ xs. before_binders (map view_binder bs) (binders_of (data_of xs))) (sym (drop-cons ds i d lt))

pub no_binder_put : (ds : List Datum) (i : ℕ) (d : Datum) (bs : List Binder) → i < length ds → d ≡ get_or ds i d → binder_of (data_view.view d) ≡ None →
    before_binders bs (binders_of (data_of (drop i ds))) ≡ None
no_binder_put ds i d bs lt is e =
    ap (λ xs. before_binders bs (binders_of (data_of xs))) (drop-cons ds i d lt)
    ∙ ap (λ o. before_binders bs (and_binder o (binders_of (data_of (drop (suc i) ds))))) (ap (λ d. binder_of (data_view.view d)) (sym is) ∙ e)

pub drop_none : {X : Type 0} (xs : List X) (i : ℕ) → length xs ≤ i → drop i xs ≡ []
drop_none [] zero h = refl
drop_none [] (suc i) h = refl
drop_none (x ∷ xs) zero h = absurd (omega arith)
drop_none (x ∷ xs) (suc i) h = drop_none xs i (omega arith)

append_none : {X : Type 0} (xs : List X) → xs ++ [] ≡ xs
append_none [] = refl
append_none (x ∷ xs) = ap (λ ys. x ∷ ys) (append_none xs)

pub binders_put : (ds : List Datum) (i : ℕ) (bs : List Binder) (z : Option (List Binder)) → length ds ≤ i → before_binders bs (binders_of (data_of (drop i ds))) ≡ z → z ≡ Some bs
binders_put ds i bs z le h = sym h ∙ ap (λ xs. before_binders bs (binders_of (data_of xs))) (drop_none ds i le) ∙ ap Some (append_none bs)

-- bindings before others, if there are any
abbrev joined_data : datum.Trees → datum.Trees → datum.Trees
joined_data datum.none es = es
joined_data (datum.more d ds) es = datum.more d (joined_data ds es)

abbrev joined_pairs : Pairs → Pairs → Pairs
joined_pairs ps qs = record { binders = ps.binders ++ qs.binders; values = joined_data ps.values qs.values }

abbrev pub before_pairs : List PairCode → Option Pairs → Option Pairs
before_pairs bs None = None
before_pairs bs (Some ps) = Some (joined_pairs (view_pairs bs) ps)

joined_more : (bs : List PairCode) (b : PairCode) (ps : Pairs) → joined_pairs (view_pairs (bs ++ b ∷ [])) ps ≡ joined_pairs (view_pairs bs) (record { binders = view_binder b.binder ∷ ps.binders; values = datum.more (data_view.view b.value.now) ps.values })
joined_more [] b ps = refl
joined_more (x ∷ bs) b ps = ap (λ (qs : Pairs). record { binders = view_binder x.binder ∷ qs.binders; values = datum.more (data_view.view x.value.now) qs.values }) (joined_more bs b ps)

before_pair : (bs : List PairCode) (b : PairCode) (o : Option Pairs) → before_pairs (bs ++ b ∷ []) o ≡ before_pairs bs (and_pair (Some (view_pair b)) o)
before_pair bs b None = refl
before_pair bs b (Some ps) = ap Some (joined_more bs b ps)

pub pair_put : (ds : List Datum) (i : ℕ) (d : Datum) (b : PairCode) (bs new : List PairCode) → i < length ds → d ≡ get_or ds i d → pair_in (elements_of (data_view.view d)) ≡ Some (view_pair b) → new ≡ bs ++ b ∷ [] →
    before_pairs new (pairs_of (data_of (drop (i + 1) ds))) ≡ before_pairs bs (pairs_of (data_of (drop i ds)))
pair_put ds i d b bs new lt is e n =
    let rest : Option Pairs = pairs_of (data_of (drop (suc i) ds)) in
    ap (λ k. before_pairs new (pairs_of (data_of (drop k ds)))) (add-one i)
    ∙ ap (λ xs. before_pairs xs rest) n
    ∙ before_pair bs b rest
    ∙ ap (λ o. before_pairs bs (and_pair o rest)) (sym e ∙ ap (λ d. pair_in (elements_of (data_view.view d))) is)
    ∙ ap (λ xs. before_pairs bs (pairs_of (data_of xs))) (sym (drop-cons ds i d lt))

pub no_pair_put : (ds : List Datum) (i : ℕ) (d : Datum) (bs : List PairCode) → i < length ds → d ≡ get_or ds i d → pair_in (elements_of (data_view.view d)) ≡ None →
    before_pairs bs (pairs_of (data_of (drop i ds))) ≡ None
no_pair_put ds i d bs lt is e =
    ap (λ xs. before_pairs bs (pairs_of (data_of xs))) (drop-cons ds i d lt)
    ∙ ap (λ o. before_pairs bs (and_pair o (pairs_of (data_of (drop (suc i) ds))))) (ap (λ d. pair_in (elements_of (data_view.view d))) (sym is) ∙ e)

pairs_alone : (bs : List PairCode) → joined_pairs (view_pairs bs) (record { binders = []; values = datum.none }) ≡ view_pairs bs
pairs_alone [] = refl
pairs_alone (x ∷ bs) = ap (λ (qs : Pairs). record { binders = view_binder x.binder ∷ qs.binders; values = datum.more (data_view.view x.value.now) qs.values }) (pairs_alone bs)

pub pairs_put : (ds : List Datum) (i : ℕ) (bs : List PairCode) (z : Option Pairs) → length ds ≤ i → before_pairs bs (pairs_of (data_of (drop i ds))) ≡ z → z ≡ Some (view_pairs bs)
pairs_put ds i bs z le h = sym h ∙ ap (λ xs. before_pairs bs (pairs_of (data_of xs))) (drop_none ds i le) ∙ ap Some (pairs_alone bs)

pub no_body : (ds : List Datum) → length ds < 2 → NoBody (data_of ds)
no_body [] h = tt
no_body (x ∷ []) h = tt
no_body (x ∷ y ∷ ds) h = absurd (omega arith)
