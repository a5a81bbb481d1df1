-- The values that the types of the public calls hold: usize, u32, slices of u16, and the columns of a Session. Assumes nothing.
use Rattle.std.specs.Prelude.{ℕ, ◌*◌, ◌^◌, ◌<◌, List, ◌≡◌, length}
use Rattle.table.specs.Limits.{base}
use Rattle.session.specs.declared.Session.{Session}
use Rattle.protocol.specs.Each.{Each}
use Rattle.protocol.specs.Engine.{Call, sends, receives}

-- usize
abbrev pub Size : ℕ → Type 0
Size n = n < 2 ^ 64

-- numbers of so many bits
abbrev pub Bits : ℕ → List ℕ → Type 0
Bits b ws = Each (λ w. w < 2 ^ b) ws

-- &[u16]: two bytes a word, and no slice has 2 ^ 63 bytes
pub record Words (ws : List ℕ) : Type 0 where
  pub sized : length ws * 2 < 2 ^ 63
  pub small : Bits 16 ws

-- the sender, the receiver and the label are usize, the payload is u32
pub data Fits : Call → Type 0 where
  fits_send : {p q l v : ℕ} → Size p → Size q → Size l → v < 2 ^ 32 → Fits (sends p q l v)
  fits_receive : {p q : ℕ} → Size p → Size q → Fits (receives p q)

-- [u16; ROLES], [u8; PAIRS], [u8; SLOTS], [u32; SLOTS]
pub record FitsSession (s : Session) : Type 0 where
  pub heads : (length s.heads ≡ base.roles) × Bits 16 s.heads
  pub counts : (length s.counts ≡ base.roles * base.roles) × Bits 8 s.counts
  pub labels : (length s.labels ≡ base.roles * base.roles * base.depth) × Bits 8 s.labels
  pub payloads : (length s.payloads ≡ base.roles * base.roles * base.depth) × Bits 32 s.payloads
