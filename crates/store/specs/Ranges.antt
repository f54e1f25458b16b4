-- Which cells there are, and what is in range for each.
use Rattle.std.specs.Prelude.{ℕ, ◌+◌, ◌-◌, ◌*◌, Bool, cond, ◌&&◌, ◌==◌, nat_le}
use Rattle.store.specs.declared.content.Content.{Content}

-- processes 1 to 9 have cells 1 to 4
abbrev pub is_cell : ℕ → ℕ → Bool
is_cell p c = nat_le 1 p && nat_le p 9 && nat_le 1 c && nat_le c 4

-- where a cell lies among all cells, from 0: by process, and then by cell
abbrev pub index : ℕ → ℕ → ℕ
index p c = (p - 1) * 4 + (c - 1)

-- cell 2 holds a round, 1 to 999,999; every other a reading, 1 to 99,999,999
abbrev pub fits_number : ℕ → ℕ → Bool
fits_number c n = nat_le 1 n && nat_le n (cond (c == 2) 999999 99999999)

-- cell 3, the pair, has a stamp, 0 to 999,999; every other has 0 there
abbrev pub fits_stamp : ℕ → ℕ → Bool
fits_stamp c t = nat_le t (cond (c == 3) 999999 0)

-- a content is in the cell's range
abbrev pub fits : ℕ → Content → Bool
fits c v = fits_number c v.number && fits_stamp c v.stamp
