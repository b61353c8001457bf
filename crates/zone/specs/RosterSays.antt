-- What a roster says, in its own terms: the handles rise strictly, each live handle is among them and no other, and the sizes are theirs.
use Rattle.std.specs.Prelude.{◌≡◌, List, [], ◌∷◌, ℕ, suc, ◌*◌, ◌≤◌, length, drop}
use Rattle.bigendian.specs.BigEndian.{Bytes}
use Rattle.block_type.specs.Limits.{record_size}
use Rattle.calls.specs.Calls.{by_handle, size, roster, told, told_with}
use Rattle.calls.specs.Roster.{Card, cards_in}
use Rattle.zone.specs.Call.{call}
use Rattle.zone.specs.Promise.{Promise}

-- the first handle is not below k, each later one above the one before it
pub data Rising : ℕ → List Card → Type 0 where
  rise_none : {k : ℕ} → Rising k []
  rise_more : {k : ℕ} {c : Card} {cs : List Card} → k ≤ c.handle → Rising (suc c.handle) cs → Rising k (c ∷ cs)

-- there is a record of handle h and size n
pub data In (h n : ℕ) : List Card → Type 0 where
  in_here : {c : Card} {cs : List Card} → c.handle ≡ h → c.amount ≡ n → In h n (c ∷ cs)
  in_there : {c : Card} {cs : List Card} → In h n cs → In h n (c ∷ cs)

-- the records cs are those of the zone's live handles
pub record Lists (zone : List ℕ) (cs : List Card) : Type 0 where
  pub rising : Rising 0 cs
  -- each live handle, with the size that `size` answers
  pub live : (h n : ℕ) → (call (size (by_handle h)) zone).answer ≡ told 0 n → In h n cs
  -- and no other
  pub only : (h n : ℕ) → In h n cs → (call (size (by_handle h)) zone).answer ≡ told 0 n

-- a roster that is done, of a second buffer that was `lent` and is `left`: the zone is as it was; the second buffer is as long as it was and has
-- room for v records, which stand at its start; "Later bytes stay"
pub record Says (zone after lent left : List ℕ) (v : ℕ) : Type 0 where
  pub still : after ≡ zone
  pub long : length left ≡ length lent
  pub room : record_size * v ≤ length lent
  pub lists : Lists zone (cards_in v left)
  pub later : drop (record_size * v) left ≡ drop (record_size * v) lent

abbrev pub RosterSays : Type 0
RosterSays = (zone after lent left : List ℕ) (v : ℕ) → Bytes zone → Promise (roster lent) zone (told_with 0 v left) after → Says zone after lent left v
