-- The items of entries and programs, one by one.
use Rattle.std.proofs.Common.{◌≡◌, sym, ap, ◌∙◌, ℕ, suc, ◌+◌, ◌<◌, Bool, true, false, cond, List, [], ◌∷◌, ◌++◌, append_assoc, length, map, drop, get_or, Option, Some, None}
use Rattle.std.proofs.Math.Seq.{drop-cons}
use Rattle.std.proofs.lemmas.Option.{slice_get-get_or}
use Rattle.tb_mac.specs.declared.item.Item.{Item}
use Rattle.tb_ir.specs.declared.anf.AnfProc.{AnfProc}
use Rattle.tb_ir.specs.AnfMachine.{captured_by, proc_of, is_number}
use Rattle.tb_ir.specs.AnfPlain.{view_proc}
use Rattle.tb_ir.specs.AnfTree.{ProcTree}
use Rattle.tb_prim.specs.declared.constant.Static.{Static}
use Rattle.tb_core.specs.FreeVariables.{is_in}
use Rattle.tb_ir.specs.AnfMachine.{free_block}
use Rattle.tb_mac.specs.declared.code.Instr.TheVariants as I
use Rattle.tb_mac.specs.declared.item.Item.TheVariants.{Label}
use Rattle.tb_codegen.specs.Generate.{labels_within}
use Rattle.tb_codegen.specs.Homes.{slot_of, frame_size}
use Rattle.tb_codegen.specs.Operations.{Body}
use Rattle.tb_generate.specs.declared.waiting.Ending.TheVariants.{ToCaller}
use Rattle.tb_generate.specs.calls.Bits.{no_registers, away_item}
use Rattle.tb_generate.specs.calls.Bodies.{captured_in, captured_of}
use Rattle.tb_generate.specs.calls.Entries.{no_slots, entry_items, frame_items, lambda_items, forms_items, lambdas_items, program_items}
use Rattle.tb_generate.specs.calls.Items.{block_items}
use Rattle.tb_generate.specs.calls.Programs.{body_with}

pub index-step : (procs : List AnfProc) (i j : ℕ) (d : AnfProc) (m : ℕ) (o n : Option ℕ) → i < length procs → j ≡ suc i →
    n ≡ cond (is_number (get_or procs i d).lambda m) (Some i) o →
    captured_in procs o ≡ captured_by (proc_of (map view_proc (drop j procs)) m) → captured_in procs n ≡ captured_by (proc_of (map view_proc (drop i procs)) m)
index-step procs i j d m o n lt e q h =
    ap (captured_in procs) q ∙ by_test (is_number (get_or procs i d).lambda m)
    ∙ ap (λ ps. captured_by (proc_of (map view_proc ps) m)) (sym (drop-cons procs i d lt))
  where
    by_test : (b : Bool) → captured_in procs (cond b (Some i) o) ≡ captured_by (cond b (Some (view_proc (get_or procs i d))) (proc_of (map view_proc (drop (suc i) procs)) m))
    by_test true = ap captured_of (slice_get-get_or procs i d lt)
    by_test false = h ∙ ap (λ k. captured_by (proc_of (map view_proc (drop k procs)) m)) e

abbrev body : (ℕ → List ℕ) → List Static → (ℕ → ℕ) → ℕ → Body
body captured statics home size = record { captured = captured; statics = statics; home = home; size = size }

-- bodies with the same parts
pub body-is : (captured : ℕ → List ℕ) (statics : List Static) (q : ProcTree) (home : ℕ → ℕ) (size : ℕ) → home ≡ slot_of q → size ≡ frame_size q →
    body captured statics home size ≡ body_with captured statics q
body-is captured statics q home size e f = ap (λ h. body captured statics h size) e ∙ ap (body captured statics (slot_of q)) f

pub lambda-parts : (c : Body) (t : ℕ → Bool) (n : ℕ) (q : ProcTree) (l : ℕ) (ps xs : List ℕ) (ws : List Bool) (cs ds es fs gs : List Item) →
    t ≡ is_in (free_block c.captured q.body) → ps ≡ q.params → xs ≡ q.captured → ws ≡ no_slots c.size → ds ≡ cs ++ Label n ∷ [] → es ≡ ds ++ entry_items t n q →
    fs ≡ es ++ frame_items c t ps xs → gs ≡ fs ++ block_items c q.body ws ToCaller l → gs ≡ cs ++ lambda_items c n q l
lambda-parts c t n q l ps xs ws cs ds es fs gs k p x w d e f g =
    let after = block_items c q.body (no_slots c.size) ToCaller l in
    let frame = frame_items c t q.params q.captured in
    g ∙ ap (λ ss. fs ++ block_items c q.body ss ToCaller l) w
    ∙ ap (λ is. is ++ after) (f ∙ ap (λ ys. es ++ frame_items c t ys xs) p ∙ ap (λ ys. es ++ frame_items c t q.params ys) x)
    ∙ append_assoc es frame after ∙ ap (λ is. is ++ (frame ++ after)) e ∙ append_assoc ds (entry_items t n q) (frame ++ after)
    ∙ ap (λ is. is ++ (entry_items t n q ++ (frame ++ after))) d ∙ append_assoc cs (Label n ∷ []) (entry_items t n q ++ (frame ++ after))
    ∙ ap (λ u. cs ++ Label n ∷ (entry_items u n q ++ (frame_items c u q.params q.captured ++ after))) k

pub program-parts : (b : ProcTree → Body) (forms lambdas : List ProcTree) (l m : ℕ) (bs cs ds es : List Item) → bs ≡ [] → l ≡ length lambdas →
    m ≡ l + labels_within forms → cs ≡ bs ++ forms_items b forms l → ds ≡ cs ++ away_item I.End no_registers None ∷ [] →
    es ≡ ds ++ lambdas_items b 0 lambdas m → es ≡ program_items b forms lambdas
program-parts b forms lambdas l m bs cs ds es z i j p q r =
    let ending = away_item I.End no_registers None ∷ [] in
    r ∙ ap (λ is. is ++ lambdas_items b 0 lambdas m) (q ∙ ap (λ is. is ++ ending) (p ∙ ap (λ is. is ++ forms_items b forms l) z))
    ∙ append_assoc (forms_items b forms l) ending (lambdas_items b 0 lambdas m)
    ∙ ap (λ k. forms_items b forms l ++ (ending ++ lambdas_items b 0 lambdas k)) j
    ∙ ap (λ k. forms_items b forms k ++ (ending ++ lambdas_items b 0 lambdas (k + labels_within forms))) i
