-- What a line of a script leaves of the lists that it is lent. Assumes nothing.
use Rattle.std.specs.Prelude.{◌≡◌, length}
use Rattle.samplecalls.specs.declared.storage.Storage.{Storage}

-- the header and the lists stand where they stood, and each list has the length that it had
abbrev pub SameRoom : Storage → Storage → Type 0
SameRoom s t =
    (s.header.ghost_name ≡ t.header.ghost_name) × (s.tags.ghost_name ≡ t.tags.ghost_name)
    × (s.policies.ghost_name ≡ t.policies.ghost_name) × (s.counts.ghost_name ≡ t.counts.ghost_name)
    × (s.flows.ghost_name ≡ t.flows.ghost_name)
    × (length s.tags.now ≡ length t.tags.now) × (length s.policies.now ≡ length t.policies.now)
    × (length s.counts.now ≡ length t.counts.now) × (length s.flows.now ≡ length t.flows.now)

-- the header and the flow table have the content that they had
abbrev pub SameTable : Storage → Storage → Type 0
SameTable s t = (s.header.now ≡ t.header.now) × (s.flows.now ≡ t.flows.now)
