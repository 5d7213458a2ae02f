-- The words of places and of the journal's rows, numbered from 0, and how they, headers and answers are printed.
use Rattle.std.specs.Prelude.{ℕ, zero, suc, ◌*◌, ◌%◌, ◌^◌, max, List, ◌∷◌, ◌++◌, map, drop, slice_set, Bool, false, if◌then◌else◌, length, get_or, codes}
use Rattle.std.specs.List.{range_with_len}
use Rattle.std.specs.Fmt.{decimal}
use Rattle.model.specs.Store.{ptr}
use Rattle.model.specs.declared.Header.{Header}
use Rattle.model.specs.declared.Row.{Row}
use Rattle.model.specs.declared.Message.{Message}
use Rattle.model.specs.declared.Completed.{Completed}
use Rattle.scripts.specs.declared.words.Place.{Place}

-- What a line's numbers give: a header and the words of a place, each cut to its field. A number that is left out is 0.
abbrev pub header_of : List ℕ → Header
header_of w =
    record { len = get_or w 0 0 % 2 ^ 16; m = get_or w 1 0 % 2 ^ 16; root = get_or w 2 0 % 2 ^ 16; generation = get_or w 3 0 % 2 ^ 32 }

abbrev pub place_of : List ℕ → Place
place_of w = record { generation = get_or w 0 0 % 2 ^ 32; link = get_or w 1 0 % 2 ^ 16; value = get_or w 2 0 }

-- The words of a table with those of the first places given, three numbers for each place.
unfoldable pub given : (Place → ℕ) → List ℕ → ℕ → List ℕ → List ℕ
given word numbers zero ws = ws
given word numbers (suc n) ws = slice_set (given word numbers n ws) n (word (place_of (drop (3 * n) numbers)))

-- A word that a table has not is 0.
abbrev pub place_at : List ℕ → List ℕ → List ℕ → ℕ → Place
place_at g l v k = record { generation = get_or g k 0; link = get_or l k 0; value = get_or v k 0 }

-- Every place that one of the tables has.
abbrev pub places : List ℕ → List ℕ → List ℕ → List Place
places g l v = map (place_at g l v) (range_with_len 0 (max (max (length g) (length l)) (length v)))

abbrev pub row_at : List ℕ → List ℕ → List ℕ → List ℕ → List Bool → ℕ → Row
row_at oi og ni ng ov k =
    record {
      old = ptr (get_or oi k 0) (get_or og k 0);
      new = ptr (get_or ni k 0) (get_or ng k 0);
      overflow = get_or ov k false;
    }

-- Every row that one of the columns has.
abbrev pub rows : List ℕ → List ℕ → List ℕ → List ℕ → List Bool → List Row
rows oi og ni ng ov =
    map (row_at oi og ni ng ov)
    (range_with_len 0 (max (max (max (max (length oi) (length og)) (length ni)) (length ng)) (length ov)))

-- A colon between the words, 58 in bytes.
abbrev pub place_text : Place → List ℕ
place_text p = decimal p.generation ++ (58 ∷ decimal p.link) ++ (58 ∷ decimal p.value)

-- Overflow is 1, or 0.
abbrev pub row_text : Row → List ℕ
row_text r =
    decimal r.old.index ++ (58 ∷ decimal r.old.generation) ++ (58 ∷ decimal r.new.index) ++ (58 ∷ decimal r.new.generation)
    ++ (58 ∷ decimal (if r.overflow then 1 else 0))

-- A blank between the numbers, 32 in bytes.
abbrev pub header_text : Header → List ℕ
header_text h = decimal h.len ++ (32 ∷ decimal h.m) ++ (32 ∷ decimal h.root) ++ (32 ∷ decimal h.generation)

-- The handle and the value of a message.
abbrev pub message_text : Message → List ℕ
message_text m = decimal m.ptr.index ++ (32 ∷ decimal m.ptr.generation) ++ (32 ∷ decimal m.value)

abbrev pub completed_text : Completed Message → List ℕ
completed_text (Completed.Done m) = codes "ok " ++ message_text m
completed_text (Completed.Overflow m) = codes "over " ++ message_text m
