-- A comparison as a JSON object.
use Rattle.std.specs.Prelude.{ℕ, List, [], ◌∷◌, ◌++◌, codes, decimal}
use Rattle.object_pairs.specs.Comparison.{verdict_of}
use Rattle.object_pairs.specs.declared.comparison.Comparison.{Comparison}
use Rattle.object_pairs.specs.declared.comparison.Verdict.{Verdict}
use Rattle.object_pairs.specs.declared.comparison.Verdict.TheVariants.{Slid, Broken, Incomparable}
use Rattle.object_pairs.specs.declared.figures.SpaceFigures.{SpaceFigures}

abbrev pub verdict_word : Verdict → List ℕ
verdict_word Slid = codes "slid"
verdict_word Broken = codes "broken"
verdict_word Incomparable = codes "not comparable"

-- how many objects there are
abbrev pub objects_members : Comparison → List ℕ
objects_members c =
    codes "{\"before\":" ++ (decimal c.before ++ (codes ",\"after\":" ++ (decimal c.after ++ (codes ",\"paired\":" ++ (decimal c.paired
    ++ (codes ",\"changed\":" ++ (decimal c.changed ++ codes ",")))))))

-- how many references are in each conflict
abbrev pub conflict_members : Comparison → List ℕ
conflict_members c =
    codes "\"cleared\":" ++ (decimal c.cleared ++ (codes ",\"filled\":" ++ (decimal c.filled ++ (codes ",\"elsewhere\":"
    ++ (decimal c.elsewhere ++ codes ",")))))

-- a verdict, and the name of the list of spaces
abbrev pub verdict_member : Verdict → List ℕ
verdict_member verdict = codes "\"verdict\":\"" ++ (verdict_word verdict ++ codes "\",\"spaces\":[")

-- the counts, the verdict, and the name of the list of spaces
abbrev pub counts_members : Comparison → List ℕ
counts_members c = objects_members c ++ (conflict_members c ++ verdict_member (verdict_of c))

-- the object of a space
abbrev pub space_object : SpaceFigures → List ℕ
space_object space =
    (codes "{\"start\":" ++ (decimal space.start ++ (codes ",\"paired\":" ++ (decimal space.paired ++ (codes ",\"stayed\":" ++ (decimal space.stayed
    ++ (codes ",\"descents\":" ++ (decimal space.descents ++ codes ","))))))))
    ++ (codes "\"holes\":" ++ (decimal space.holes ++ (codes ",\"prefix\":" ++ (decimal space.prefix ++ (codes ",\"prefix_end\":"
    ++ (decimal space.prefix_end ++ codes "}"))))))

-- the objects of spaces, with a comma before each
abbrev pub others_text : List SpaceFigures → List ℕ
others_text [] = []
others_text (space ∷ others) = (codes "," ++ space_object space) ++ others_text others

-- the objects of spaces, with commas between
abbrev pub spaces_list : List SpaceFigures → List ℕ
spaces_list [] = []
spaces_list (space ∷ others) = space_object space ++ others_text others

-- the whole object, on a line
abbrev pub comparison_object : Comparison → List ℕ
comparison_object c = counts_members c ++ (spaces_list c.spaces.items ++ codes "]}\n")
