mod FoundParts
