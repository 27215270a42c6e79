-- The numbers of places stay small.
use Rattle.std.proofs.Common.{ℕ, suc, ◌+◌, ◌≤◌, Bool, true, false, cond, List, [], ◌∷◌, ◌-◌, length, take, arith}
use Rattle.std.specs.Prelude.{◌==◌}
use Rattle.std.proofs.lemmas.List.{length-take-le}
use Rattle.tb_prim.specs.declared.place.Place.{Place}
use Rattle.tb_sexp.specs.calls.Scanning.{HasRoom}
use Rattle.tb_sexp.specs.Places.{behind, behind_all}

room-by : (p : Place) (test : Bool) (n : ℕ) → HasRoom p (n + 1) → HasRoom (cond test (record { library = p.library; line = p.line + 1; column = 1 }) (record { library = p.library; line = p.line; column = p.column + 1 })) n
room-by p true n h = let a = h.lines in let b = h.columns in record { lines = omega arith; columns = omega arith }
room-by p false n h = let a = h.lines in let b = h.columns in record { lines = omega arith; columns = omega arith }

pub room-fewer : (p : Place) (n m : ℕ) → m ≤ n → HasRoom p n → HasRoom p m
room-fewer p n m le h = let a = h.lines in let b = h.columns in record { lines = omega arith; columns = omega arith }

pub room-behind : (p : Place) (bs : List ℕ) (k : ℕ) → HasRoom p (length bs + k) → HasRoom (behind_all p bs) k
room-behind p [] k h = room-fewer p (0 + k) k (omega arith) h
room-behind p (b ∷ bs) k h =
    room-behind (behind p b) bs k (room-by p (b == 10) (length bs + k) (room-fewer p (suc (length bs) + k) (length bs + k + 1) (omega arith) h))

pub room_taken : (p : Place) (bs : List ℕ) (n : ℕ) → n ≤ length bs → HasRoom p (length bs) → HasRoom (behind_all p (take n bs)) (length bs - n)
room_taken p bs n le h =
    room-behind p (take n bs) (length bs - n) (room-fewer p (length bs) (length (take n bs) + (length bs - n)) (omega (arith, length-take-le n bs le)) h)
