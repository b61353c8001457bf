-- What each of the ledger's calls, and initialize, answers and does to the bytes of a buffer, for any buffer and any numbers: it is
-- refused with the first cause of the table, or the bytes are read as a structure, its blocks are grouped into bays, the work is done
-- there, and the bytes are written again.
use Rattle.std.specs.Prelude.{cond, List, ◌++◌, ℕ, ◌-◌, max, length, drop, replicate, eqb}
use Rattle.format.specs.WellFormed.{well_formed}
use Rattle.structure.specs.Structure.{Structure, start, len, encode, decode}
use Rattle.calls.specs.Calls.{Call, Answer, told, refused}
use Rattle.calls.specs.State.{Out}
use Rattle.calls.specs.Table.{refusal_of, refusal_value, init_refusal}
use Rattle.bay.specs.Bay.{Cell}
use Rattle.zone.specs.Group.{group, flatten}
use Rattle.zone.specs.Work.{Zone, facts, work, fresh}

-- the structure of a zone in a buffer of some length, with its blocks in bays; and back
abbrev pub in_bays : ℕ → Structure → Zone
in_bays buf s = record { buf = buf; len = len s; clock = s.clock; chain = s.chain; bays = group (start s) s.blocks }

abbrev pub in_line : Zone → Structure
in_line z = record { clock = z.clock; chain = z.chain; blocks = flatten z.bays }

-- the zone in a buffer. (Where the bytes are no zone it is a value that nobody asks for: cause 1 holds, which comes first.)
abbrev pub zone_in : List ℕ → Zone
zone_in bs = in_bays (length bs) (decode bs)

-- the refusal number of a call, 0 where nothing refuses it
abbrev pub number_of : Call → List ℕ → ℕ
number_of c bs = refusal_of c (facts (well_formed bs) (zone_in bs))

-- what a call answers, and every byte of the buffer after it
pub record Result : Type 0 where
  pub answer : Answer
  pub bytes : List ℕ

abbrev pub result_of : Answer → List ℕ → Result
result_of a bs = record { answer = a; bytes = bs }

-- the buffer bs with the structure u in place of s: "Stripped bytes are zeroed", and all bytes beyond both lengths stay
abbrev pub replacing : List ℕ → Structure → Structure → List ℕ
replacing bs s u = encode u ++ (replicate (len s - len u) 0 ++ drop (max (len s) (len u)) bs)

abbrev pub outcome : List ℕ → Structure → Out (List Cell) → Result
outcome bs s o = record { answer = o.answer; bytes = replacing bs s (in_line o.next) }

-- n is the refusal number. (Bytes that are no zone refuse every call but check, which says no.)
abbrev pub call_with : ℕ → Call → List ℕ → Result
call_with n c bs =
    cond (eqb n 0)
    (cond (well_formed bs) (outcome bs (decode bs) (work c (zone_in bs))) (result_of (told 0 0) bs))
    (result_of (refused c n (refusal_value n c (facts (well_formed bs) (zone_in bs)))) bs)

-- A CALL ON A BUFFER
abbrev pub call : Call → List ℕ → Result
call c bs = call_with (number_of c bs) c bs

-- ---- initialize (length, m): "all L bytes are set and no later one"

abbrev pub initialize_with : ℕ → ℕ → ℕ → List ℕ → Result
initialize_with k n m bs = cond (eqb k 0) (result_of (told 0 0) (encode (in_line (fresh (length bs) n m)) ++ drop n bs)) (result_of (told k 0) bs)

abbrev pub initialize : ℕ → ℕ → List ℕ → Result
initialize n m bs = initialize_with (init_refusal (length bs) n m) n m bs
