-- A sequence file of fourteen commands on three places, and its whole listing.
use Rattle.std.specs.Prelude.{ℕ, zero, suc, ◌%◌, ◌/◌, List, [], ◌∷◌, ◌++◌}
use Rattle.model.specs.Sequence.{command}
use Rattle.model.specs.Listing.{bytes}
use Rattle.model.specs.declared.Command.{Command}

-- A number in n bytes, little-endian.
abbrev pub bytes_of : ℕ → ℕ → List ℕ
bytes_of zero x = []
bytes_of (suc n) x = x % 256 ∷ bytes_of n (x / 256)

-- A command's 16 bytes, and those of a list of commands.
abbrev pub encoded : List Command → List ℕ
encoded [] = []
encoded (c ∷ cs) =
    bytes_of 1 c.code
    ++ bytes_of 1 c.flag
    ++ bytes_of 2 c.index
    ++ bytes_of 4 c.generation
    ++ bytes_of 8 c.value
    ++ encoded cs

-- A sequence file of C places.
abbrev pub file : ℕ → List Command → List ℕ
file C cs = 84 ∷ 84 ∷ 83 ∷ bytes_of 2 1 ++ bytes_of 2 C ++ bytes_of 1 0 ++ encoded cs

-- The file.
unfoldable pub worked_file : List ℕ
worked_file =
    file 3
    (command 1 0 0 0 10
    ∷ command 1 0 0 0 20
    ∷ command 1 0 0 0 30
    ∷ command 1 0 0 0 40
    ∷ command 2 0 1 2 0
    ∷ command 4 0 1 2 0
    ∷ command 2 0 3 2 0
    ∷ command 1 0 0 0 50
    ∷ command 3 0 2 2 0
    ∷ command 2 0 1 4 0
    ∷ command 7 0 0 0 0
    ∷ command 4 0 1 7 0
    ∷ command 5 0 0 0 0
    ∷ command 7 1 0 0 0
    ∷ [])

-- What `runseq` prints for it.
unfoldable pub worked_listing : List ℕ
worked_listing =
    bytes "insert ok 1 2 10 1 1 0 2\n"
    ++ bytes "insert ok 2 2 20 2 2 0 2\n"
    ++ bytes "insert ok 3 2 30 3 3 0 2\n"
    ++ bytes "insert no7 0 0 0 3 3 0 2\n"
    ++ bytes "remove ok 1 2 10 2 3 1 3\n"
    ++ bytes "get no6 0 0 0 2 3 1 3\n"
    ++ bytes "remove ok 3 2 30 1 2 1 4\n"
    ++ bytes "insert ok 1 4 50 2 2 0 4\n"
    ++ bytes "invalidate ok 2 5 0 2 2 0 5\n"
    ++ bytes "remove ok 1 4 50 1 2 1 6\n"
    ++ bytes "compress ok 0 0 0 1 1 0 7\n"
    ++ bytes "get ok 1 7 20 1 1 0 7\n"
    ++ bytes "clear ok 0 0 0 0 0 0 8\n"
    ++ bytes "compress ok 0 0 0 0 0 0 2\n"
    ++ bytes "sum 12 0 2\n"
