-- What a refusal that a message meets leaves.
use Rattle.std.specs.Prelude.{ℕ}
use Rattle.resolution.specs.Format.{refused_running, Buffers, Formatted, zeros}

-- a refusal that a message meets "fills the three buffers with zeros"
unfoldable pub cleared : ℕ → Buffers → Formatted
cleared n b = record { answer = refused_running n; buffers = record { text = zeros b.text; list = zeros b.list; work = zeros b.work } }
