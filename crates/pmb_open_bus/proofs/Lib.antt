mod Found
