-- Numbers that were tested.
use Rattle.std.proofs.Common.{◌≡◌, ℕ, ◌≤◌, true, ◌&&◌, leb}
use Rattle.std.proofs.lemmas.Bool.{and_parts, leb-true}
use Rattle.process.specs.declared.message.Message.{Message}
use Rattle.process.specs.Messages.{well_formed}

pub within : (low high x : ℕ) → (leb low x && leb x high) ≡ true → (low ≤ x) × (x ≤ high)
within low high x h = let both = and_parts (leb low x) (leb x high) h in (leb-true low x both.0, leb-true x high both.1)

-- the two ends of a message
pub ends_of : (n : ℕ) (m : Message) → well_formed n m ≡ true → (1 ≤ m.sender) × (1 ≤ m.addressee) × (m.addressee ≤ n)
ends_of n m h =
    let two = (and_parts _ _ (and_parts _ _ h).0).0 in
    let from = within 1 n m.sender (and_parts _ _ two).0 in
    let to = within 1 n m.addressee (and_parts _ _ two).1 in
    (from.0, to.0, to.1)
