-- Items that can be assembled become code that keeps its rules.
use Rattle.std.proofs.Common.{◌≡◌, true≢false, refl, sym, ap, ◌∙◌, subst, ℕ, zero, suc, ◌+◌, ◌<◌, ◌≤◌, ⊎_elim, inl, inr, true, false, Bool, cond, List, [], ◌∷◌, ◌++◌, map, length, All, Option, Some, None, IfSome, is_some, slice_get, nat_eq, append_assoc, append-nil, add-one, arith}
use Rattle.std.proofs.lemmas.Bool.{eq-eqb}
use Rattle.std.proofs.lemmas.List.{length-map}
use Rattle.std.proofs.lemmas.List.Elements.{All-cons, All-head, All-nil, All-tail}
use Rattle.std.proofs.lemmas.Option.{slice_get-map}
use Rattle.std.specs.Map.{lookup, keys_of}
use Rattle.std.specs.Option.{option_map}
use Rattle.tb_prim.specs.declared.place.Place.{Place}
use Rattle.tb_semantics.specs.Graph.{IsApart, IsIn}
use Rattle.tb_semantics.proofs.ListLemmas.{get-some, in-left, in-right, in-cases}
use Rattle.tb_mac.specs.declared.code.Instr.{Instr}
use Rattle.tb_mac.specs.declared.code.Instr.TheVariants.{Proc, Args, ArgsGe, Save, SetRtn, Load, Store, Pop, Return, Invoke, Jump, Brf, Imm, Stat, Move, GlobalGet, GlobalSet, GlobalDef, Cell, CellGet, CellSet, Clo, Capt, CaptSet, Apply, End, Op0, Op1, Op2, Op3}
use Rattle.tb_mac.specs.declared.code.LambdaEntry.{LambdaEntry}
use Rattle.tb_mac.specs.declared.code.LiveMap.{LiveMap}
use Rattle.tb_mac.specs.declared.code.Parts.{Parts}
use Rattle.tb_mac.specs.declared.code.PlaceEntry.{PlaceEntry}
use Rattle.tb_mac.specs.declared.item.Item.{Item}
use Rattle.tb_mac.specs.declared.item.Item.TheVariants.{Label, Ins}
use Rattle.tb_mac.specs.declared.refusal.AsmRefusal.{AsmRefusal}
use Rattle.tb_mac.specs.declared.refusal.AsmRefusal.TheVariants.{NoLabel, TwiceLabel, NoMemory}
use Rattle.tb_mac.specs.Assemble.{AreResolved, IsMissing, IsTwice, ItemOk, ItemsOk, assembled, entry_labels, instructions, item_maps, item_places, labels, named_labels, number_of, placed_at, stands_at, target, targets, with_entries, with_entry, with_target}
use Rattle.tb_mac.specs.Assembled.{Assembled}
use Rattle.tb_mac.specs.Refused.{IsRefused}
use Rattle.tb_mac.specs.Rules.{EntryOk, InstrOk, KeepsRules, MapOk, PartsOk, failing_from, instr_can_fail}
use Rattle.tb_mac.specs.Words.{on_some}
use Rattle.tb_mac.specs.calls.Labels.{HasAll, IsFirstAbsent, Misses, StandsTwice, Table, labelled, number_in}
use Rattle.tb_mac.proofs.LabelLemmas.{labelled-keys, labelled-stands}

-- the number of a label in the table of items is the one that it becomes
pub number-same : (items : List Item) → number_in (labelled 0 items) ≡ number_of items
number-same items = λ i l. on_some (sym (labelled-stands l 0 items) i) 0 (λ n. n)

-- labels that a table of items has stand among the items
pub has-stands : (items : List Item) (ls : List ℕ) (k : ℕ) → HasAll (labelled 0 items) ls → IsIn k ls → IsIn k (labels items)
has-stands items [] k h i = absurd i
has-stands items (l ∷ ls) k h (inl e) = subst (IsIn k) (labelled-keys 0 items) (subst (λ j. IsIn j (keys_of (labelled 0 items))) e h.0)
has-stands items (l ∷ ls) k h (inr i) = has-stands items ls k h.1 i

differs : (a b : ℕ) → nat_eq a b ≡ false → a ≡ b → ⊥
differs a b h e = true≢false (sym (eq-eqb a b e) ∙ h)

in-entries : (ls : List LambdaEntry) (n : ℕ) (l : LambdaEntry) → slice_get ls n ≡ Some l → IsIn l.entry (entry_labels ls)
in-entries [] n l e = cc
in-entries (k ∷ ls) zero l e = inl (let h : k ≡ l = cc in ap (λ (j : LambdaEntry). j.entry) h)
in-entries (k ∷ ls) (suc n) l e = inr (in-entries ls n l e)

-- a label that stands among items stands before some instruction
pub stands-some : (l n : ℕ) (items : List Item) → IsIn l (labels items) → (at : ℕ) × (stands_at l n items ≡ Some at)
stands-some l n [] i = absurd i
stands-some l n (Label k ∷ is) i = by (nat_eq k l) refl i (stands-some l n is)
  where
    by : (b : Bool) → nat_eq k l ≡ b → IsIn l (k ∷ labels is) → (IsIn l (labels is) → (at : ℕ) × (stands_at l n is ≡ Some at)) →
        (at : ℕ) × (cond b (Some n) (stands_at l n is) ≡ Some at)
    by true h j so = (n, refl)
    by false h (inl e) so = absurd (differs k l h e)
    by false h (inr j) so = so j
stands-some l n (Ins i m p ∷ is) j = stands-some l (suc n) is j

-- an instruction whose label becomes the number of an instruction keeps the rules of its fields
pub numbered-ok : (parts : Parts) (to : ℕ → ℕ) (count : ℕ) (i : Instr) → InstrOk parts 1 (with_target (λ l. 0) i) →
    ((l : ℕ) → IsIn l (target i) → to l < count) → InstrOk (with_entries to parts) count (with_target to i)
numbered-ok parts to count (Proc x) h g = subst (λ n. x < n) (sym (length-map parts.lambdas (with_entry to))) h
numbered-ok parts to count (Args a) h g = h
numbered-ok parts to count (ArgsGe a) h g = h
numbered-ok parts to count (Save x) h g = h
numbered-ok parts to count (SetRtn x) h g = g x (inl refl)
numbered-ok parts to count (Load a x) h g = h
numbered-ok parts to count (Store a x) h g = h
numbered-ok parts to count (Pop x) h g = h
numbered-ok parts to count Return h g = h
numbered-ok parts to count (Invoke a) h g = h
numbered-ok parts to count (Jump x) h g = g x (inl refl)
numbered-ok parts to count (Brf a x) h g = (h.0, g x (inl refl))
numbered-ok parts to count (Imm a x) h g = h
numbered-ok parts to count (Stat a b x) h g = h
numbered-ok parts to count (Move a b) h g = h
numbered-ok parts to count (GlobalGet a x) h g = h
numbered-ok parts to count (GlobalSet a x) h g = h
numbered-ok parts to count (GlobalDef a x) h g = h
numbered-ok parts to count (Cell a b) h g = h
numbered-ok parts to count (CellGet a b) h g = h
numbered-ok parts to count (CellSet a b) h g = h
numbered-ok parts to count (Clo a n x) h g = (h.0, h.1, g x (inl refl))
numbered-ok parts to count (Capt a b x) h g = h
numbered-ok parts to count (CaptSet a b x) h g = h
numbered-ok parts to count Apply h g = h
numbered-ok parts to count End h g = h
numbered-ok parts to count (Op0 a x) h g = h
numbered-ok parts to count (Op1 a b x) h g = h
numbered-ok parts to count (Op2 a b d x) h g = h
numbered-ok parts to count (Op3 a b d x) h g = h

-- another target leaves whether an instruction can fail
pub target-fails : (to : ℕ → ℕ) (i : Instr) → instr_can_fail (with_target to i) ≡ instr_can_fail i
target-fails to (Proc x) = refl
target-fails to (Args a) = refl
target-fails to (ArgsGe a) = refl
target-fails to (Save x) = refl
target-fails to (SetRtn x) = refl
target-fails to (Load a x) = refl
target-fails to (Store a x) = refl
target-fails to (Pop x) = refl
target-fails to Return = refl
target-fails to (Invoke a) = refl
target-fails to (Jump x) = refl
target-fails to (Brf a x) = refl
target-fails to (Imm a x) = refl
target-fails to (Stat a b x) = refl
target-fails to (Move a b) = refl
target-fails to (GlobalGet a x) = refl
target-fails to (GlobalSet a x) = refl
target-fails to (GlobalDef a x) = refl
target-fails to (Cell a b) = refl
target-fails to (CellGet a b) = refl
target-fails to (CellSet a b) = refl
target-fails to (Clo a n x) = refl
target-fails to (Capt a b x) = refl
target-fails to (CaptSet a b x) = refl
target-fails to Apply = refl
target-fails to End = refl
target-fails to (Op0 a x) = refl
target-fails to (Op1 a b x) = refl
target-fails to (Op2 a b d x) = refl
target-fails to (Op3 a b d x) = refl

-- what the items keep, the code keeps: fields, maps and places
fields-kept : (parts : Parts) (to : ℕ → ℕ) (count : ℕ) (is : List Item) → All (ItemOk parts) is →
    ((l : ℕ) → IsIn l (targets (instructions is)) → to l < count) →
    All (InstrOk (with_entries to parts) count) (map (with_target to) (instructions is))
fields-kept parts to count [] h g = All-nil (InstrOk (with_entries to parts) count)
fields-kept parts to count (Label l ∷ is) h g = fields-kept parts to count is (All-tail (ItemOk parts) (Label l) is h) g
fields-kept parts to count (Ins i m p ∷ is) h g =
    All-cons (InstrOk (with_entries to parts) count) (with_target to i) (map (with_target to) (instructions is))
    (numbered-ok parts to count i (All-head (ItemOk parts) (Ins i m p) is h).0 (λ l j. g l (in-left (target i) (targets (instructions is)) l j)))
    (fields-kept parts to count is (All-tail (ItemOk parts) (Ins i m p) is h) (λ l j. g l (in-right (target i) (targets (instructions is)) l j)))

maps-kept : (parts : Parts) (is : List Item) → All (ItemOk parts) is → All MapOk (item_maps is)
maps-kept parts [] h = All-nil MapOk
maps-kept parts (Label l ∷ is) h = maps-kept parts is (All-tail (ItemOk parts) (Label l) is h)
maps-kept parts (Ins i m p ∷ is) h =
    All-cons MapOk m (item_maps is) (All-head (ItemOk parts) (Ins i m p) is h).1 (maps-kept parts is (All-tail (ItemOk parts) (Ins i m p) is h))

maps-many : (to : ℕ → ℕ) (is : List Item) → length (item_maps is) ≡ length (map (with_target to) (instructions is))
maps-many to [] = refl
maps-many to (Label l ∷ is) = maps-many to is
maps-many to (Ins i m p ∷ is) = ap suc (maps-many to is)

places-kept : (parts : Parts) (to : ℕ → ℕ) (n : ℕ) (is : List Item) → All (ItemOk parts) is →
    map (λ (e : PlaceEntry). e.instr) (item_places n is) ≡ failing_from n (map (with_target to) (instructions is))
places-kept parts to n [] h = refl
places-kept parts to n (Label l ∷ is) h = places-kept parts to n is (All-tail (ItemOk parts) (Label l) is h)
places-kept parts to n (Ins i m p ∷ is) h =
    by p (sym (All-head (ItemOk parts) (Ins i m p) is h).2) (target-fails to i)
    (places-kept parts to (suc n) is (All-tail (ItemOk parts) (Ins i m p) is h))
  where
    by : (q : Option Place) → instr_can_fail i ≡ is_some q → instr_can_fail (with_target to i) ≡ instr_can_fail i →
        map (λ (e : PlaceEntry). e.instr) (item_places (suc n) is) ≡ failing_from (suc n) (map (with_target to) (instructions is)) →
        map (λ (e : PlaceEntry). e.instr) (placed_at n q ++ item_places (suc n) is)
        ≡ cond (instr_can_fail (with_target to i)) (n ∷ failing_from (n + 1) (map (with_target to) (instructions is)))
        (failing_from (n + 1) (map (with_target to) (instructions is)))
    by None e t so = rw (t, e, add-one) so
    by (Some q) e t so = rw (t, e, add-one) (ap (λ ns. n ∷ ns) so)

-- the entry of each lambda becomes the number of its `proc`
entry-kept : (parts : Parts) (items : List Item) → ItemsOk parts items → AreResolved parts items → (n : ℕ) (o : Option LambdaEntry) →
    slice_get parts.lambdas n ≡ o →
    IfSome (option_map (with_entry (number_of items)) o) (λ l. slice_get (map (with_target (number_of items)) (instructions items)) l.entry ≡ Some (Proc n))
entry-kept parts items ok r n None e = tt
entry-kept parts items ok r n (Some l) e =
    let named = in-right (targets (instructions items)) (entry_labels parts.lambdas) l.entry (in-entries parts.lambdas n l e) in
    let s = stands-some l.entry 0 items (r.found l.entry named) in
    subst (λ at. slice_get (map (with_target (number_of items)) (instructions items)) at ≡ Some (Proc n))
    (ap (λ o. on_some o 0 (λ k. k)) (sym s.1))
    (slice_get-map (with_target (number_of items)) (instructions items) s.0
    ∙ ap (option_map (with_target (number_of items))) (ok.entries n l e s.0 s.1))

-- the code of items that can be assembled keeps the rules of code
pub assembled-keeps : (parts : Parts) (items : List Item) → ItemsOk parts items → AreResolved parts items →
    KeepsRules (with_entries (number_of items) parts) (map (with_target (number_of items)) (instructions items)) (item_maps items) (item_places 0 items)
assembled-keeps parts items ok r =
    let to = number_of items in
    let count = length-map (instructions items) (with_target to) in
    record {
      parts_ok = record {
        few_globals = ok.parts_ok.few_globals;
        few_statics = ok.parts_ok.few_statics;
        few_lambdas = subst (λ n. n < 1048576) (sym (length-map parts.lambdas (with_entry to))) ok.parts_ok.few_lambdas;
        few_orders = ok.parts_ok.few_orders;
        names = ok.parts_ok.names;
        statics = ok.parts_ok.statics;
        orders = ok.parts_ok.orders;
      };
      some = subst (λ n. 1 ≤ n) (sym count) ok.some;
      few = subst (λ n. n < 16777216) (sym count) ok.few;
      fields = subst (λ n. All (InstrOk (with_entries to parts) n) (map (with_target to) (instructions items))) (sym count)
          (fields-kept parts to (length (instructions items)) items ok.items_ok (λ l i. within l i));
      mapped = maps-many to items;
      each_map = maps-kept parts items ok.items_ok;
      entries = λ n. subst (λ o. IfSome o (λ l. slice_get (map (with_target to) (instructions items)) l.entry ≡ Some (Proc n)))
          (sym (slice_get-map (with_entry to) parts.lambdas n)) (entry-kept parts items ok r n (slice_get parts.lambdas n) refl);
      placed = places-kept parts to 0 items ok.items_ok;
    }
  where
    within : (l : ℕ) → IsIn l (targets (instructions items)) → number_of items l < length (instructions items)
    within l i =
        let s = stands-some l 0 items (r.found l (in-left (targets (instructions items)) (entry_labels parts.lambdas) l i)) in
        subst (λ o. on_some o 0 (λ n. n) < length (instructions items)) (sym s.1) (ok.labels_before l s.0 s.1)

-- the labels of all instructions and entries are found
pub all-resolved : (parts : Parts) (items : List Item) → IsApart (labels items) →
    HasAll (labelled 0 items) (targets (instructions items)) → HasAll (labelled 0 items) (entry_labels parts.lambdas) → AreResolved parts items
all-resolved parts items a h g = record {
  apart = a;
  found = λ k i. ⊎_elim (has-stands items (targets (instructions items)) k h) (has-stands items (entry_labels parts.lambdas) k g)
      (in-cases (targets (instructions items)) (entry_labels parts.lambdas) k i);
}

-- a label that the table of items does not have is the first that is named and stands nowhere
missing : (parts : Parts) (items : List Item) (front ks back : List ℕ) (l : ℕ) → HasAll (labelled 0 items) front →
    named_labels parts items ≡ front ++ (ks ++ back) → IsFirstAbsent (labelled 0 items) ks l → IsMissing parts items l
missing parts items front ks back l h e a = record {
  before = front ++ a.before;
  behind = a.behind ++ back;
  named = e ∙ ap (λ xs. front ++ (xs ++ back)) a.named ∙ ap (λ xs. front ++ xs) (append_assoc a.before (l ∷ a.behind) back)
      ∙ sym (append_assoc front a.before (l ∷ (a.behind ++ back)));
  found = λ k i. ⊎_elim (has-stands items front k h) (has-stands items a.before k a.found) (in-cases front a.before k i);
  nowhere = λ i. a.absent (subst (IsIn l) (sym (labelled-keys 0 items)) i);
}

pub item-missing : (parts : Parts) (items : List Item) (r : AsmRefusal) → IsApart (labels items) →
    Misses (labelled 0 items) (targets (instructions items)) r → IsRefused parts items r
item-missing parts items (TwiceLabel l) a m = absurd m
item-missing parts items (NoLabel l) a m = (a, missing parts items [] (targets (instructions items)) (entry_labels parts.lambdas) l tt refl m)
item-missing parts items NoMemory a m = tt

pub entry-missing : (parts : Parts) (items : List Item) (r : AsmRefusal) → IsApart (labels items) →
    HasAll (labelled 0 items) (targets (instructions items)) → Misses (labelled 0 items) (entry_labels parts.lambdas) r → IsRefused parts items r
entry-missing parts items (TwiceLabel l) a h m = absurd m
entry-missing parts items (NoLabel l) a h m = (
  a,
  missing parts items (targets (instructions items)) (entry_labels parts.lambdas) [] l h
      (ap (λ xs. targets (instructions items) ++ xs) (sym (append-nil (entry_labels parts.lambdas)))) m,
)
entry-missing parts items NoMemory a h m = tt

pub twice-refused : (parts : Parts) (items : List Item) (r : AsmRefusal) → StandsTwice items r → IsRefused parts items r
twice-refused parts items (TwiceLabel l) s = s
twice-refused parts items (NoLabel l) s = absurd s
twice-refused parts items NoMemory s = tt

-- what was made with the table of the items is made as the definition says
pub code-made : (items : List Item) (es : Table) (code : List Instr) → es ≡ labelled 0 items →
    code ≡ map (with_target (number_in es)) (instructions items) → code ≡ map (with_target (number_of items)) (instructions items)
code-made items es code f e =
    e ∙ ap (λ t. map (with_target (number_in t)) (instructions items)) f
    ∙ ap (λ to. map (with_target to) (instructions items)) (number-same items)

pub parts-made : (items : List Item) (es : Table) (parts made : Parts) (given lambdas : List LambdaEntry) → es ≡ labelled 0 items →
    given ≡ parts.lambdas → lambdas ≡ map (with_entry (number_in es)) given → made ≡ record parts { lambdas = lambdas } →
    made ≡ with_entries (number_of items) parts
parts-made items es parts made given lambdas f g e k =
    k ∙ ap (λ ls. record parts { lambdas = ls })
    (e ∙ ap (map (with_entry (number_in es))) g ∙ ap (λ t. map (with_entry (number_in t)) parts.lambdas) f
    ∙ ap (λ to. map (with_entry to) parts.lambdas) (number-same items))

-- code of equal parts keeps the rules
pub same-keeps : (parts parts' : Parts) (code code' : List Instr) (maps maps' : List LiveMap) (places places' : List PlaceEntry) →
    parts' ≡ parts → code' ≡ code → maps' ≡ maps → places' ≡ places → KeepsRules parts code maps places → KeepsRules parts' code' maps' places'
same-keeps parts parts' code code' maps maps' places places' p c m l k =
    subst (λ q. KeepsRules q code' maps' places') (sym p) (subst (λ q. KeepsRules parts q maps' places') (sym c)
    (subst (λ q. KeepsRules parts code q places') (sym m) (subst (KeepsRules parts code maps) (sym l) k)))

pub same-code : (parts parts' : Parts) (code code' : List Instr) (maps maps' : List LiveMap) (places places' : List PlaceEntry) →
    parts' ≡ parts → code' ≡ code → maps' ≡ maps → places' ≡ places →
    let made : Assembled = record { parts = parts'; code = code'; maps = maps'; places = places' } in
    made ≡ record { parts = parts; code = code; maps = maps; places = places }
same-code parts parts' code code' maps maps' places places' p c m l =
    λ i. record { parts = p i; code = c i; maps = m i; places = l i }
