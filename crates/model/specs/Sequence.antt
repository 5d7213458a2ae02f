-- Section "The sequence file", the layout: eight bytes and then commands of 16 bytes, all numbers little-endian.
use Rattle.std.specs.Prelude.{ℕ, zero, suc, ◌+◌, ◌*◌, ◌-◌, ◌/◌, ◌^◌, List, [], ◌∷◌, length, get_or}
use Rattle.model.specs.declared.Command.{Command}

-- The largest numbers of places and of commands in a sequence.
abbrev pub max_places : ℕ
max_places = 1024

abbrev pub max_commands : ℕ
max_commands = 4095

-- The number in n bytes from offset i on.
unfoldable pub field : List ℕ → ℕ → ℕ → ℕ
field b i zero = 0
field b i (suc n) = get_or b i 0 + 256 * field b (i + 1) n

-- The mark `TTS`, the version, the number of places and the eighth byte.
abbrev pub mark : List ℕ → ℕ
mark b = field b 0 3

abbrev pub version : List ℕ → ℕ
version b = field b 3 2

abbrev pub file_places : List ℕ → ℕ
file_places b = field b 5 2

abbrev pub eighth : List ℕ → ℕ
eighth b = field b 7 1

-- How many commands the bytes hold.
abbrev pub command_count : List ℕ → ℕ
command_count b = (length b - 8) / 16

abbrev pub command : ℕ → ℕ → ℕ → ℕ → ℕ → Command
command c f i g v = record { code = c; flag = f; index = i; generation = g; value = v }

-- The command whose 16 bytes start at offset i.
unfoldable pub command_from : List ℕ → ℕ → Command
command_from b i = command (field b i 1) (field b (i + 1) 1) (field b (i + 2) 2) (field b (i + 4) 4) (field b (i + 8) 8)

-- Command number n, from 1.
abbrev pub command_at : List ℕ → ℕ → Command
command_at b n = command_from b (16 * n - 8)

-- The table of commands and their permitted fields: the code, and the largest number of each other field, 0 where the
-- command does not use it.
abbrev pub permitted : List Command
permitted =
    command 1 0 0 0 (2 ^ 64 - 1)  -- insert
    ∷ command 2 0 (2 ^ 16 - 1) (2 ^ 32 - 1) 0  -- remove
    ∷ command 3 0 (2 ^ 16 - 1) (2 ^ 32 - 1) 0  -- invalidate
    ∷ command 4 0 (2 ^ 16 - 1) (2 ^ 32 - 1) 0  -- get
    ∷ command 5 0 0 0 0  -- clear
    ∷ command 6 0 0 0 0  -- order
    ∷ command 7 1 0 0 0  -- compress
    ∷ command 8 0 0 0 0  -- audit
    ∷ command 9 0 0 (2 ^ 32 - 1) 0  -- setgen
    ∷ command 10 0 (2 ^ 16 - 1) 0 0  -- takeinx
    ∷ []
