-- Storages that are the same past the lengths in use. What a call leaves alone, and its gain counted from the sets:
-- proofs/Effects.antt. Assumes nothing.
use Rattle.std.specs.Prelude.{◌≡◌, ℕ, ◌*◌, length, drop}
use Rattle.state.specs.State.{Storage}

-- two storages have the same lengths, and the same content past those that n containers use
pub record SameBeyond (n : ℕ) (a b : Storage) : Type 0 where
  pub tag-words : length a.tags ≡ length b.tags
  pub policy-words : length a.policies ≡ length b.policies
  pub count-bytes : length a.policy_counts ≡ length b.policy_counts
  pub records : length a.flows ≡ length b.flows
  pub tags-beyond : drop (4 * n) a.tags ≡ drop (4 * n) b.tags
  pub policies-beyond : drop (16 * n) a.policies ≡ drop (16 * n) b.policies
  pub counts-beyond : drop n a.policy_counts ≡ drop n b.policy_counts
  pub flows-beyond : drop 512 a.flows ≡ drop 512 b.flows
