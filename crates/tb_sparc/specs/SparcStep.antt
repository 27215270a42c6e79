-- The SPARC machine: its states, and the step from one to the next (SPARC V8 manual, appendix B; the data words and the
-- services of `ta` are this project's own).
use Rattle.std.specs.Prelude.{ℕ, zero, suc, ◌+◌, ◌*◌, ◌/◌, ◌%◌, ◌^◌, Bool, true, false, cond, ◌&&◌, ◌||◌, ◌==◌, nat_lt, nat_le, ℤ, List, [], length, Option, Some, None, slice_get, slice_index, slice_set, bit_and, bit_or, bit_xor}
use Rattle.std.specs.Int.{cast_unsigned, from_be_bytes, to_be_bytes, w32}
use Rattle.tb_prim.specs.declared.event.Cause.{Cause}
use Rattle.tb_prim.specs.declared.event.Event.{Event}
use Rattle.tb_prim.specs.declared.event.Stop.{Stop}
use Rattle.tb_prim.specs.declared.event.Taken.{Taken}
use Rattle.tb_mac.specs.declared.code.Instr.{Instr}
use Rattle.tb_mac.specs.declared.code.Instr.TheVariants as I
use Rattle.tb_mac.specs.Assembled.{Assembled}
use Rattle.tb_mac.specs.MacStep.{kept_ahead, next_taken, place_of, rest_after, taken_word}
use Rattle.tb_mac.specs.Words.{on_some}
use Rattle.tb_sparc.specs.declared.codes.Codes.{Codes}
use Rattle.tb_sparc.specs.declared.instr.AluOp.{AluOp}
use Rattle.tb_sparc.specs.declared.instr.AluOp.TheVariants.{Add, And, Or, Xor, Sub, Smul, Sdiv, AddCc, AndCc, OrCc, SubCc, TaddCc, TsubCc, Sll, Srl, Sra}
use Rattle.tb_sparc.specs.declared.instr.Operand.{Operand}
use Rattle.tb_sparc.specs.declared.instr.Operand.TheVariants.{Reg, Imm}
use Rattle.tb_sparc.specs.declared.instr.SparcInstr.{SparcInstr}
use Rattle.tb_sparc.specs.declared.instr.SparcInstr.TheVariants.{Call, Sethi, Branch, Alu, RdY, WrY, Jmpl, Load, Store, Trap}
use Rattle.tb_sparc.specs.Grouped.{Grouped, group_at}
use Rattle.tb_sparc.specs.Word.{instr_of}
use Rattle.tb_sparc.specs.WordBits.{data_address, word_bits}
use Rattle.tb_sparc.specs.WordOps.{add, sub, shift_left, shift_right, shift_signed, product, low_word, high_word, quotient, is_outside, after_add, after_sub, after_tagged_add, after_tagged_sub, after_logic, condition}

-- a state: the numbers of the word that is next and of the one behind it, of which word i has the address 4 * i; the
-- 32 registers; Y; the condition codes; the data words; the number of the instruction of the last group start at
-- which a step was made; and what is known of the input ahead
pub record Sparc : Type 0 where
  pub pc : ℕ
  pub npc : ℕ
  pub registers : List ℕ
  pub y : ℕ
  pub codes : Codes
  pub memory : List ℕ
  pub group : ℕ
  pub ahead : Option Taken

-- what an instruction comes to: the next state, with an event or none; register 8 gets what the input has next, which
-- is taken or only peeked at; or no next state and why
pub data Outcome : Type 0 where
  Goes : Sparc → Outcome
  Emits : Event → Sparc → Outcome
  Takes : Outcome
  Peeks : Outcome
  Stops : Stop → Outcome

-- the address of a word of the code
abbrev pub address_of : ℕ → ℕ
address_of word = 4 * word

-- there is no next step
abbrev pub stuck : Sparc → Outcome
stuck s = Stops (Stop.Stuck (address_of s.pc))

-- the word behind another; addresses have 32 bits
abbrev pub behind : ℕ → ℕ
behind word = (word + 1) % 2 ^ 30

-- the word so many words from another
abbrev pub moved : ℕ → ℤ → ℕ
moved word distance = (word + cast_unsigned w32 distance) % 2 ^ 30

-- a register, and the registers with one written; register 0 stays 0
abbrev pub read : List ℕ → ℕ → ℕ
read registers r = slice_index registers r

abbrev pub write : List ℕ → ℕ → ℕ → List ℕ
write registers r w = slice_set (slice_set registers r w) 0 0

-- the next word follows
abbrev pub advance : Sparc → Sparc
advance s = record s { pc = s.npc; npc = behind s.npc }

-- a register is written, and the next word follows
abbrev pub put : ℕ → ℕ → Sparc → Sparc
put rd w s = record s { pc = s.npc; npc = behind s.npc; registers = write s.registers rd w }

-- the condition codes too
abbrev pub put_codes : ℕ → ℕ → Codes → Sparc → Sparc
put_codes rd w codes s = record s { pc = s.npc; npc = behind s.npc; registers = write s.registers rd w; codes = codes }

-- a transfer: the next word follows, and then the target
abbrev pub transfer : ℕ → Sparc → Sparc
transfer target s = record s { pc = s.npc; npc = target }

-- the next word is skipped
abbrev pub skip : Sparc → Sparc
skip s = record s { pc = behind s.npc; npc = behind (behind s.npc) }

-- the machine goes on at the target at once
abbrev pub leap : ℕ → Sparc → Sparc
leap target s = record s { pc = target; npc = behind target }

-- a transfer that leaves the address of its own word in a register
abbrev pub link : ℕ → ℕ → Sparc → Sparc
link rd target s = record s { pc = s.npc; npc = target; registers = write s.registers rd (address_of s.pc) }

abbrev pub operand : Sparc → Operand → ℕ
operand s (Reg r) = read s.registers r
operand s (Imm n) = cast_unsigned w32 n

-- an annulled branch that is not taken skips the next word, and so does one that is always taken
abbrev pub branch : Bool → Bool → Bool → ℤ → Sparc → Sparc
branch true annul always distance s = cond (annul && always) (leap (moved s.pc distance) s) (transfer (moved s.pc distance) s)
branch false annul always distance s = cond annul (skip s) (advance s)

-- SDIV divides Y joined with the first operand; a divisor 0, or a quotient outside 32 bits, leaves no next step
abbrev pub divide : ℕ → ℕ → ℕ → Sparc → Outcome
divide rd a b s = cond (b == 0) (stuck s) (cond (is_outside (quotient s.y a b)) (stuck s) (Goes (put rd (cast_unsigned w32 (quotient s.y a b)) s)))

abbrev pub operate : AluOp → ℕ → ℕ → ℕ → Sparc → Outcome
operate Add rd a b s = Goes (put rd (add a b) s)
operate And rd a b s = Goes (put rd (bit_and a b) s)
operate Or rd a b s = Goes (put rd (bit_or a b) s)
operate Xor rd a b s = Goes (put rd (bit_xor a b) s)
operate Sub rd a b s = Goes (put rd (sub a b) s)
operate Smul rd a b s = Goes (record (put rd (low_word (product a b)) s) { y = high_word (product a b) })
operate Sdiv rd a b s = divide rd a b s
operate AddCc rd a b s = Goes (put_codes rd (add a b) (after_add a b) s)
operate AndCc rd a b s = Goes (put_codes rd (bit_and a b) (after_logic (bit_and a b)) s)
operate OrCc rd a b s = Goes (put_codes rd (bit_or a b) (after_logic (bit_or a b)) s)
operate SubCc rd a b s = Goes (put_codes rd (sub a b) (after_sub a b) s)
operate TaddCc rd a b s = Goes (put_codes rd (add a b) (after_tagged_add a b) s)
operate TsubCc rd a b s = Goes (put_codes rd (sub a b) (after_tagged_sub a b) s)
operate Sll rd a b s = Goes (put rd (shift_left a b) s)
operate Srl rd a b s = Goes (put rd (shift_right a b) s)
operate Sra rd a b s = Goes (put rd (shift_signed a b) s)

-- a jump, whose target is a multiple of 4
abbrev pub jump : ℕ → ℕ → Sparc → Outcome
jump rd target s = cond (target % 4 == 0) (Goes (link rd (target / 4) s)) (stuck s)

-- the number of the word that has the byte at an address: the address less the data address, modulo 2^32, divided by 4
abbrev pub word_number : ℕ → ℕ
word_number at = sub at data_address / 4

-- the word that has the byte at an address of the data
abbrev pub with_word : ℕ → Sparc → (ℕ → Outcome) → Outcome
with_word at s k = on_some (slice_get s.memory (word_number at)) (stuck s) k

-- the address is a multiple of 4
abbrev pub aligned : ℕ → Sparc → Outcome → Outcome
aligned at s o = cond (at % 4 == 0) o (stuck s)

-- the bytes of a word, the first of them highest
abbrev pub byte_of : ℕ → ℕ → ℕ
byte_of w k = slice_index (to_be_bytes w32 w) k

abbrev pub set_byte : ℕ → ℕ → ℕ → ℕ
set_byte w k byte = from_be_bytes w32 (slice_set (to_be_bytes w32 w) k byte)

-- a word of the data changes, and the next word follows
abbrev pub set_word : ℕ → ℕ → Sparc → Sparc
set_word number w s = record s { pc = s.npc; npc = behind s.npc; memory = slice_set s.memory number w }

abbrev pub load : Bool → ℕ → ℕ → Sparc → Outcome
load false rd at s = aligned at s (with_word at s (λ w. Goes (put rd w s)))
load true rd at s = with_word at s (λ w. Goes (put rd (byte_of w (at % 4)) s))

-- a byte is the lowest of the register
abbrev pub store : Bool → ℕ → ℕ → Sparc → Outcome
store false rd at s = aligned at s (with_word at s (λ w. Goes (set_word (word_number at) (read s.registers rd) s)))
store true rd at s = with_word at s (λ w. Goes (set_word (word_number at) (set_byte w (at % 4) (read s.registers rd % 256)) s))

-- the causes by number
abbrev pub cause_of : ℕ → Option Cause
cause_of n =
    cond (n == 1) (Some Cause.NotProcedure)
    (cond (n == 2) (Some Cause.WrongArgs)
    (cond (n == 3) (Some Cause.WrongType)
    (cond (n == 4) (Some Cause.Overflow)
    (cond (n == 5) (Some Cause.Range)
    (cond (n == 6) (Some Cause.ZeroDivide)
    (cond (n == 7) (Some Cause.Undefined)
    (cond (n == 8) (Some Cause.TooMany)
    None)))))))

-- `ta 1`: the machine fails with the cause in register 2, at the place of the instruction of the last group start
abbrev pub fail : Assembled → Sparc → Outcome
fail c s = on_some (cause_of (read s.registers 2)) (stuck s) (λ cause. on_some (place_of c.places s.group) (stuck s) (λ p. Stops (Stop.Fail cause p)))

-- `ta 2`: the words in register 3 do not fit between the heap pointer in register 1 and the stack pointer in 14
abbrev pub request : Sparc → Outcome
request s =
    let pointer = word_number (read s.registers 1) in
    let stack = word_number (read s.registers 14) in
    let need = read s.registers 3 in
    cond (nat_lt stack (pointer + need)) (Stops (Stop.Full pointer stack need)) (stuck s)

-- the character of which these are the bits
abbrev pub char_of : ℕ → Option ℕ
char_of w = cond (w % 256 == 10) (cond (nat_lt (w / 256) 256) (Some (w / 256)) None) None

-- `ta 3`: the character in register 8 is put
abbrev pub put_char : Sparc → Outcome
put_char s = on_some (char_of (read s.registers 8)) (stuck s) (λ c. Emits (Event.Put c) (advance s))

-- so many words from one on become 0
abbrev pub cleared : ℕ → ℕ → List ℕ → List ℕ
cleared zero at memory = memory
cleared (suc n) at memory = cleared n (at + 1) (slice_set memory at 0)

-- `ta 6`: as many words as register 3 says become 0, from the address in register 2 on
abbrev pub clear : Sparc → Outcome
clear s =
    let at = read s.registers 2 in
    let count = read s.registers 3 in
    aligned at s (cond ((count == 0) || nat_le (word_number at + count) (length s.memory))
    (Goes (record s { pc = s.npc; npc = behind s.npc; memory = cleared count (word_number at) s.memory })) (stuck s))

-- the services of `ta`
abbrev pub serve : Assembled → ℕ → Sparc → Outcome
serve c n s =
    cond (n == 0) (Stops Stop.End)
    (cond (n == 1) (fail c s)
    (cond (n == 2) (request s)
    (cond (n == 3) (put_char s)
    (cond (n == 4) Takes
    (cond (n == 5) Peeks
    (cond (n == 6) (clear s)
    (stuck s)))))))

-- what an instruction does
abbrev pub perform : Assembled → Sparc → SparcInstr → Outcome
perform c s (Call distance) = Goes (link 15 (moved s.pc distance) s)
perform c s (Sethi rd n) = Goes (put rd (n * 2 ^ 10) s)
perform c s (Branch k annul distance) = Goes (branch (condition k s.codes) annul (k == 8) distance s)
perform c s (Alu op rd rs1 o) = operate op rd (read s.registers rs1) (operand s o) s
perform c s (RdY rd) = Goes (put rd s.y s)
perform c s (WrY rs1 o) = Goes (record (advance s) { y = bit_xor (read s.registers rs1) (operand s o) })
perform c s (Jmpl rd rs1 o) = jump rd (add (read s.registers rs1) (operand s o)) s
perform c s (Load byte rd rs1 o) = load byte rd (add (read s.registers rs1) (operand s o)) s
perform c s (Store byte rd rs1 o) = store byte rd (add (read s.registers rs1) (operand s o)) s
perform c s (Trap n) = serve c n s

-- the state in which a step is made: at a group start its instruction is that of the last group start
abbrev pub entered : Grouped → Sparc → Sparc
entered g s = record s { group = on_some (group_at g.starts s.pc) s.group (λ n. n) }

-- what the instruction that stands at the pc does
abbrev pub fetched : Assembled → Grouped → Sparc → Outcome
fetched c g s = on_some (slice_get g.words s.pc) (stuck s) (λ w. on_some (instr_of w) (stuck s) (perform c (entered g s)))

-- the event of the group of an instruction
abbrev pub event_of : Instr → Option Event
event_of (I.Proc n) = Some (Event.Enter n)
event_of I.Return = Some Event.Back
event_of _ = None

-- the event of a group start at this word
abbrev pub event_at : Assembled → Grouped → ℕ → Option Event
event_at c g word = on_some (group_at g.starts word) None (λ n. on_some (slice_get c.code n) None event_of)

-- what a step comes to: the next state and the rest of the input, with an event or none; or no next state
pub data Stepped : Type 0 where
  Went : Option Event → Sparc → List ℕ → Stepped
  Stopped : Stop → Stepped

-- register 8 gets what was taken or peeked at
abbrev pub received : Taken → Option Taken → Sparc → Sparc
received t ahead s = record s { pc = s.npc; npc = behind s.npc; registers = write s.registers 8 (word_bits [] (taken_word t)); ahead = ahead }

-- `ta 4`
abbrev pub take_input : Sparc → List ℕ → Stepped
take_input s input = let t = next_taken s.ahead input in Went (Some (Event.Took t)) (received t (kept_ahead t) s) (rest_after s.ahead input)

-- `ta 5`: the same answer, which stays ahead
abbrev pub peek_input : Sparc → List ℕ → Stepped
peek_input s input = let t = next_taken s.ahead input in Went None (received t (Some t) s) (rest_after s.ahead input)

-- an outcome with the input
abbrev pub with_input : Sparc → List ℕ → Outcome → Stepped
with_input s input (Goes s') = Went None s' input
with_input s input (Emits e s') = Went (Some e) s' input
with_input s input Takes = take_input s input
with_input s input Peeks = peek_input s input
with_input s input (Stops stop) = Stopped stop

-- a step that has no event of its own has that of its group start; `ta 0` to `ta 4` have their own, or stop
abbrev pub with_mark : Option Event → Stepped → Stepped
with_mark mark (Went None s input) = Went mark s input
with_mark mark (Went (Some e) s input) = Went (Some e) s input
with_mark mark (Stopped stop) = Stopped stop

-- the step from a state with this input
abbrev pub sparc_step : Assembled → Grouped → Sparc → List ℕ → Stepped
sparc_step c g s input = with_mark (event_at c g s.pc) (with_input (entered g s) input (fetched c g s))
